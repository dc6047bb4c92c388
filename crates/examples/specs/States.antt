-- The small tables, inputs, records, runs and areas that the examples compute on, written so that a reader sees each value.
--   minus n             == the integer −n
--   low_first fs         == fields as bytes: "Each field is 16 bits, unsigned, low byte first"
--   table n m ps ks     == the bytes of a table: N, M, first-out and first-in of each process, from, to, next-out and next-in of each arc
--   one, both, fork     == accepted tables: 1-2 with N 2; 1-2 and 2-1 with N 2; 1-2 and 1-3 with N 3
--   alone, loop         == accepted tables of one process: without waits; 1-1
--   beside              == the accepted table of 02, N3: 1-2, 2-3 and 3-2 with N 3
--   met1 .. met7        == bytes that meet row 1 .. 7 of "Refused because of the input", and later rows too
--   input s ed bs       == the check program's input: the start process, the edition, then these bytes
--   words k             == k words, each 9
--   counted c d, only c == a count and a second count; a count alone, with 0 as second count
--   plain s p b c n f   == a record with these values and second sum 0
--   root c n, root_with c d n   == a start's record, with this cs and this num; with this second sum too
--   sending p y, taken x p y   == what a step sends; the answer of a step that was taken, with the record that it leaves
--   told d v o e m      == the answer of a report: deliveries, verdict, outside, escape and mark
--   two s d x y forth back   == a run on the waits of one, with start s, edition 1 and d accepted deliveries: x and y are the records of 1 and
--                          of 2, forth the messages from 1 to 2, back those from 2 to 1
--   under ed r          == a run with another edition
--   receiving y m       == such a run, not over, in which m waits on the link from 1 to 2 and y is the record of 2
--   three               == such a run, not over, in which three messages wait on that link
--   everywhere          == a run on the waits of fork, not over, in which a message waits on each link
--   loads r             == how many messages wait on these links: from 2 to 1, from 3 to 1, from 1 to 2, from 1 to 3
--   unlinked            == a run with a message between two processes that are no neighbours
--   area r              == the 52 words that hold such a run
--   answers r ps        == the answers of picks, each on the run that the last one left
-- Assumes nothing.
use Rattle.std.specs.Prelude.{ℕ, ◌/◌, ◌%◌, false, ◌&&◌, List, [], ◌∷◌, ◌++◌, eqb, length, take, replicate, ℤ, pos, neg_ℤ, Option, Result, Ok}
use Rattle.base.specs.Choice.{choose}
use Rattle.refusals.specs.declared.Refusal.{Refusal}
use Rattle.tables.specs.Table.{field_of}
use Rattle.tables.specs.Waits.{waits_of, neighbours}
use Rattle.steps.specs.declared.Message.{Message}
use Rattle.steps.specs.declared.Message.TheVariants.{Suc, Pre, Ack}
use Rattle.steps.specs.declared.Process.{Process}
use Rattle.steps.specs.declared.TwoCounts.{TwoCounts}
use Rattle.steps.specs.declared.Probes.{Probes}
use Rattle.steps.specs.declared.Reply.{Reply}
use Rattle.steps.specs.declared.Sent.{Sent}
use Rattle.steps.specs.Step.{Turn, idle}
use Rattle.checks.specs.declared.Verdict.{Verdict}
use Rattle.checks.specs.declared.Mark.{Mark}
use Rattle.checks.specs.declared.Report.{Report}
use Rattle.checks.specs.Run.{Run}
use Rattle.checks.specs.Calls.{Picked, pick}
use Rattle.areas.specs.Area.{stored}
use Rattle.host_values.specs.Interface.{process_of}

abbrev pub minus : ℕ → ℤ
minus n = neg_ℤ (pos n)

-- ---- tables and inputs

-- "Each field is 16 bits, unsigned, low byte first."
unfoldable pub low_first : List ℕ → List ℕ
low_first [] = []
low_first (f ∷ fs) = f % 256 ∷ f / 256 ∷ low_first fs

unfoldable pub process_fields : List (ℕ × ℕ) → List ℕ
process_fields [] = []
process_fields (p ∷ ps) = p.0 ∷ p.1 ∷ process_fields ps

unfoldable pub arc_fields : List (ℕ × ℕ × ℕ × ℕ) → List ℕ
arc_fields [] = []
arc_fields (k ∷ ks) = k.0 ∷ k.1 ∷ k.2 ∷ k.3 ∷ arc_fields ks

-- "First N .. and M .. Then N process records: first-out, first-in. Then M arc records: from, to, next-out, next-in."
unfoldable pub table : ℕ → ℕ → List (ℕ × ℕ) → List (ℕ × ℕ × ℕ × ℕ) → List ℕ
table n m ps ks = low_first (n ∷ m ∷ process_fields ps ++ arc_fields ks)

unfoldable pub one : List ℕ
one = table 2 1 ((1, 0) ∷ (0, 1) ∷ []) ((1, 2, 0, 0) ∷ [])

unfoldable pub both : List ℕ
both = table 2 2 ((1, 2) ∷ (2, 1) ∷ []) ((1, 2, 0, 0) ∷ (2, 1, 0, 0) ∷ [])

-- "Each arc is put at the front of its two chains, in list order": the out-chain of 1 meets arc 2 and then arc 1
unfoldable pub fork : List ℕ
fork = table 3 2 ((2, 0) ∷ (0, 1) ∷ (0, 2) ∷ []) ((1, 2, 0, 0) ∷ (1, 3, 1, 0) ∷ [])

unfoldable pub alone : List ℕ
alone = table 1 0 ((0, 0) ∷ []) []

unfoldable pub loop : List ℕ
loop = table 1 1 ((1, 1) ∷ []) ((1, 1, 0, 0) ∷ [])

-- 02, N3: "Waits 1-2, 2-3, 3-2"
unfoldable pub beside : List ℕ
beside = table 3 3 ((1, 0) ∷ (2, 3) ∷ (3, 2) ∷ []) ((1, 2, 0, 0) ∷ (2, 3, 0, 0) ∷ (3, 2, 0, 1) ∷ [])

-- met7 to met1: each is the one above it spoilt once more, and meets its own row and every later one; met1 alone misses 5 and 6

-- two arcs 1-2
unfoldable pub met7 : List ℕ
met7 = table 2 2 ((2, 0) ∷ (0, 2) ∷ []) ((1, 2, 0, 0) ∷ (1, 2, 1, 1) ∷ [])

-- the out-chain of 1 ends before arc 1
unfoldable pub met6 : List ℕ
met6 = table 2 2 ((2, 0) ∷ (0, 2) ∷ []) ((1, 2, 0, 0) ∷ (1, 2, 0, 1) ∷ [])

-- first-in of 1 is 3
unfoldable pub met5 : List ℕ
met5 = table 2 2 ((2, 3) ∷ (0, 2) ∷ []) ((1, 2, 0, 0) ∷ (1, 2, 0, 1) ∷ [])

-- to is 3 in both arcs
unfoldable pub met4 : List ℕ
met4 = table 2 2 ((2, 3) ∷ (0, 2) ∷ []) ((1, 3, 0, 0) ∷ (1, 3, 0, 1) ∷ [])

-- the last byte is missing
unfoldable pub met3 : List ℕ
met3 = take 27 met4

-- N is 129, and so every byte of the arcs is missing: from and to are 0 in both
unfoldable pub met2 : List ℕ
met2 = table 129 2 ((2, 3) ∷ (0, 2) ∷ []) ((1, 3, 0, 0) ∷ (1, 3, 0, 1) ∷ [])

-- 3 bytes are left: every first and next is 0
unfoldable pub met1 : List ℕ
met1 = take 3 met2

-- "start process (16 bits), table"; the edition "as a 16-bit field after the start process" (02, N4)
unfoldable pub input : ℕ → ℕ → List ℕ → List ℕ
input s ed bs = low_first (s ∷ ed ∷ []) ++ bs

-- ---- records, runs and areas

unfoldable pub words : ℕ → List ℤ
words k = replicate k (pos 9)

-- "Acknowledgements carry a second count" (02, N3)
abbrev pub counted : ℤ → ℤ → TwoCounts
counted c d = record { count = c; second = d }

abbrev pub only : ℤ → TwoCounts
only c = counted c (pos 0)

abbrev pub plain : ℕ → ℕ → ℕ → ℤ → ℕ → ℕ → Process
plain s p b c n f = process_of s p b c n f (pos 0)

-- "s gets succeeding and preceding"
unfoldable pub root_with : ℤ → ℤ → ℕ → Process
root_with c d n = process_of 1 1 0 c n 0 d

unfoldable pub root : ℤ → ℕ → Process
root c n = root_with c (pos 0) n

abbrev pub sending : Probes → Option Reply → Sent
sending p y = record { probes = p; reply = y }

abbrev pub taken : Process → Probes → Option Reply → Result Turn Refusal
taken x p y = Ok (record { process = x; sent = sending p y })

abbrev pub told : ℕ → Verdict → ℤ → ℕ → Mark → Result Report Refusal
told d v o e m = Ok (record { deliveries = d; verdict = v; outside = o; escape = e; mark = m })

unfoldable pub two : ℕ → ℕ → Process → Process → List Message → List Message → Run
two s d x y forth back =
    record {
      waits = waits_of (field_of one);
      start = s;
      edition = 1;
      count = d;
      process = λ p. choose (eqb p 1) x (choose (eqb p 2) y idle);
      link = λ a b. choose (eqb a 1 && eqb b 2) forth (choose (eqb a 2 && eqb b 1) back []);
    }

unfoldable pub under : ℕ → Run → Run
under ed r = record r { edition = ed }

unfoldable pub receiving : Process → Message → Run
receiving y m = two 1 0 (root (pos 0) 1) y (m ∷ []) []

-- three messages wait from 1 to 2, which has both flags and is busy, so that it only acknowledges the probes
unfoldable pub three : Run
three = two 1 0 (root (pos 0) 3) (plain 1 1 0 (pos 0) 2 1) (Suc ∷ Pre ∷ Ack (only (pos 5)) ∷ []) []

-- an acknowledgement waits on each of the four links, and each process awaits more than it gets there
unfoldable pub everywhere : Run
everywhere =
    record {
      waits = waits_of (field_of fork);
      start = 1;
      edition = 1;
      count = 0;
      process = λ p. choose (eqb p 1) (root (pos 0) 4) (plain 1 0 1 (pos 0) 2 1);
      link = λ a b. choose (neighbours (waits_of (field_of fork)) a b) (Ack (only (pos 0)) ∷ []) [];
    }

unfoldable pub loads : Run → List ℕ
loads r = length (r.link 2 1) ∷ length (r.link 3 1) ∷ length (r.link 1 2) ∷ length (r.link 1 3) ∷ []

-- nobody waits for anybody, so there is no link, and yet a message from 2 to 1
unfoldable pub unlinked : Run
unlinked =
    record {
      waits = record { n = 2; waits = λ a b. false };
      start = 1;
      edition = 1;
      count = 0;
      process = λ p. choose (eqb p 1) (root (pos 0) 1) idle;
      link = λ a b. choose (eqb a 2 && eqb b 1) (Ack (only (pos 0)) ∷ []) [];
    }

-- N is 2 and M is 1: "8N + 20M + 16" words
unfoldable pub area : Run → List ℤ
area r = stored (field_of one) r []

unfoldable pub answers : Run → List (ℕ × ℕ) → List (Result Message Refusal)
answers r [] = []
answers r (p ∷ ps) = let q : Picked = pick r p.0 p.1 1 in q.answer ∷ answers q.run ps

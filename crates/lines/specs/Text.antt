-- The lines that the check program prints (01, "The check program"), as lists of bytes in ASCII.
--   bytes t             == the quoted text t, a byte for each character
--   digit d             == the byte of a decimal digit
--   decimal n           == "Output is in decimal", with no zeros in front
--   signed z            == "a negative number with a hyphen before it"
--   field n, count_field z   == a space and a number
--   line_end             == "each line ends with byte 10"
--   who own             == "pick or own": own if the program chose the link
--   link_text own a b    == "pick or own, sender, receiver"
--   message_text m       == " suc", " pre", or " ack" with its count and, at the end, its second count (02, N3)
--   delivery_line own a b m     == "pick or own, sender, receiver, kind, count for ack"
--   refused_pick_line a b n      == "A refused pick prints its number"
--   number_line w n      == a line of a word and a number
--   refused_line n       == "An input refusal prints only `refused` and the number"
--   flags_text x         == "succeeding, preceding, subordinate"
--   sums_text x          == "cs, num", and at the end the second sum (02, N3)
--   process_line p x     == "process, succeeding, preceding, subordinate, cs, num", and at the end the second sum (02, N3)
--   report_text d v o e m   == "deliveries; the report": the five lines over_line, verdict_line, outside_line, escape_line and mark_line
--   text_of report       == the same, of a report
-- Assumes nothing.
use Rattle.std.specs.Prelude.{ℕ, zero, suc, ◌+◌, ◌/◌, ◌%◌, Bool, true, false, List, [], ◌∷◌, ◌++◌, ltb, ℤ, pos, negsuc}
use Prim.Native.Char.{code}
use Prim.Native.String.{String}
use Rattle.base.specs.Choice.{choose}
use Rattle.steps.specs.declared.Message.{Message}
use Rattle.steps.specs.declared.Message.TheVariants.{Suc, Pre, Ack}
use Rattle.steps.specs.declared.Process.{Process}
use Rattle.checks.specs.declared.Verdict.{Verdict}
use Rattle.checks.specs.declared.Verdict.TheVariants.{Knot, Free}
use Rattle.checks.specs.declared.Mark.{Mark}
use Rattle.checks.specs.declared.Report.{Report}
use Rattle.checks.specs.declared.Mark.TheVariants.{Returned, Held}

abbrev pub bytes : String → List ℕ
bytes String.[] = []
bytes (String.◌∷◌ c t) = code c ∷ bytes t

-- the byte of a digit below 10: that of 0 is 48
abbrev pub digit : ℕ → ℕ
digit d = 48 + d

-- the digits of n, for any n below the first number
unfoldable pub decimal_to : ℕ → ℕ → List ℕ
decimal_to zero n = []
decimal_to (suc f) n = choose (ltb n 10) (digit n ∷ []) (decimal_to f (n / 10) ++ (digit (n % 10) ∷ []))

-- "Output is in decimal"
unfoldable pub decimal : ℕ → List ℕ
decimal n = decimal_to (suc n) n

-- "a negative number with a hyphen before it"
unfoldable pub signed : ℤ → List ℕ
signed (pos n) = decimal n
signed (negsuc n) = bytes "-" ++ decimal (suc n)

-- a space, and a number
unfoldable pub field : ℕ → List ℕ
field n = bytes " " ++ decimal n

unfoldable pub count_field : ℤ → List ℕ
count_field z = bytes " " ++ signed z

-- "each line ends with byte 10"
abbrev line_end : List ℕ
line_end = bytes "\n"

-- "pick or own": own if the program chose the link
abbrev pub who : Bool → List ℕ
who true = bytes "own"
who false = bytes "pick"

-- `pick 1 2`: "pick or own, sender, receiver"
unfoldable pub link_text : Bool → ℕ → ℕ → List ℕ
link_text own a b = who own ++ field a ++ field b

-- " suc", " pre", " ack" with its count; "`ack` and `process` lines end with the second number" (02, N3)
unfoldable pub message_text : Message → List ℕ
message_text Suc = bytes " suc"
message_text Pre = bytes " pre"
message_text (Ack c) = bytes " ack" ++ count_field c.count ++ count_field c.second

-- `pick 1 2 suc`, `own 2 1 ack 1 1`
unfoldable pub delivery_line : Bool → ℕ → ℕ → Message → List ℕ
delivery_line own a b m = link_text own a b ++ message_text m ++ line_end

-- `pick 1 2 refused 24`
unfoldable pub refused_pick_line : ℕ → ℕ → ℕ → List ℕ
refused_pick_line a b n = link_text false a b ++ bytes " refused" ++ field n ++ line_end

-- a word, a number, and the end of the line
unfoldable pub number_line : List ℕ → ℕ → List ℕ
number_line w n = w ++ field n ++ line_end

-- `refused 13`
unfoldable pub refused_line : ℕ → List ℕ
refused_line n = number_line (bytes "refused") n

-- "succeeding, preceding, subordinate"
unfoldable pub flags_text : Process → List ℕ
flags_text x = field x.succeeding ++ field x.preceding ++ field x.subordinate

-- "cs, num"; "`ack` and `process` lines end with the second number" (02, N3)
unfoldable pub sums_text : Process → List ℕ
sums_text x = count_field x.cs ++ field x.num ++ count_field x.second

-- `process 1 1 1 0 1 0 1`: "process, succeeding, preceding, subordinate, cs, num", and the second sum (02, N3)
unfoldable pub process_line : ℕ → Process → List ℕ
process_line p x = bytes "process" ++ field p ++ flags_text x ++ sums_text x ++ line_end

-- `over 2`
unfoldable pub over_line : ℕ → List ℕ
over_line d = number_line (bytes "over") d

-- "verdict knot .. else none"
unfoldable pub verdict_line : Verdict → List ℕ
verdict_line Knot = bytes "verdict knot\n"
verdict_line Free = bytes "verdict none\n"

-- `outside 1`
unfoldable pub outside_line : ℤ → List ℕ
outside_line z = bytes "outside" ++ count_field z ++ line_end

-- `escape 2`
unfoldable pub escape_line : ℕ → List ℕ
escape_line e = number_line (bytes "escape") e

-- "mark returned .. else held"
unfoldable pub mark_line : Mark → List ℕ
mark_line Returned = bytes "mark returned\n"
mark_line Held = bytes "mark held\n"

-- the report's lines, in 01's order
unfoldable pub report_text : ℕ → Verdict → ℤ → ℕ → Mark → List ℕ
report_text d v o e m = over_line d ++ verdict_line v ++ outside_line o ++ escape_line e ++ mark_line m

abbrev pub text_of : Report → List ℕ
text_of x = report_text x.deliveries x.verdict x.outside x.escape x.mark

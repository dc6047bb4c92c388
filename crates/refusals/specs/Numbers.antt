-- The refusals and their numbers (01, "Refused because of the input" and "Refused because of the state"; 02, N4, N5 and N13), and the answer of a
-- call that may be refused. What a call checks is said in 01's numbers; its code answers by name.
--   number e         == the number that 01 lists for the refusal e
--   numbered k       == the refusal with number k; for a number that no refusal has, the last
--   answered k x     == the answer of a call whose checks come to the number k: x if it is 0, else the refusal with that number
--   number_of a      == for each case of such an answer 01's number, 0 where nothing is refused
-- Assumes nothing.
use Rattle.std.specs.Prelude.{ℕ, zero, suc, eqb, Result, Ok, Err}
use Rattle.base.specs.Choice.{choose}
use Rattle.refusals.specs.declared.Refusal.{Refusal}
use Rattle.refusals.specs.declared.Refusal.TheVariants.{TableShort, Sizes, TableLength, Ends, ChainField, Chain, ArcTwice, Process, AreaShort, ListOdd, OutputShort, BytesLeft, InputLong}
use Rattle.refusals.specs.declared.Refusal.TheVariants.{NotWellFormed, OutOfRange, Over, NoMessage, NoLink, NotOver, Edition, Place, Seed}

-- the lists of 01 and 02
abbrev pub number : Refusal → ℕ
number TableShort = 1
number Sizes = 2
number TableLength = 3
number Ends = 4
number ChainField = 5
number Chain = 6
number ArcTwice = 7
number Process = 8
number AreaShort = 9
number ListOdd = 10
number OutputShort = 11
number BytesLeft = 12
number InputLong = 13
number NotWellFormed = 21
number OutOfRange = 22
number Over = 23
number NoMessage = 24
number NoLink = 25
number NotOver = 26
number Edition = 30
number Place = 31
number Seed = 37

-- the same lists, from the number to the refusal
abbrev pub numbered : ℕ → Refusal
numbered k =
    choose (eqb k 1) TableShort
    (choose (eqb k 2) Sizes
    (choose (eqb k 3) TableLength
    (choose (eqb k 4) Ends
    (choose (eqb k 5) ChainField
    (choose (eqb k 6) Chain
    (choose (eqb k 7) ArcTwice
    (choose (eqb k 8) Process
    (choose (eqb k 9) AreaShort
    (choose (eqb k 10) ListOdd
    (choose (eqb k 11) OutputShort
    (choose (eqb k 12) BytesLeft
    (choose (eqb k 13) InputLong
    (choose (eqb k 21) NotWellFormed
    (choose (eqb k 22) OutOfRange
    (choose (eqb k 23) Over
    (choose (eqb k 24) NoMessage
    (choose (eqb k 25) NoLink
    (choose (eqb k 26) NotOver
    (choose (eqb k 30) Edition
    (choose (eqb k 31) Place
    Seed))))))))))))))))))))

module _ {A : Type 0} where
  -- "A refusal returns its number": the first check that is met, 0 if none is
  abbrev pub answered : ℕ → A → Result A Refusal
  answered zero x = Ok x
  answered (suc k) x = Err (numbered (suc k))

  -- .. and back
  abbrev pub number_of : Result A Refusal → ℕ
  number_of (Ok x) = 0
  number_of (Err e) = number e

-- How many bytes a reading got, whether it came to its end or a read failed.
--   length_of r   == so many stand at the front
-- Assumes nothing.
use Rattle.std.specs.Prelude.{ℕ, Result, Ok, Err}
use Rattle.reading.specs.declared.Failed.{Failed}

abbrev pub length_of : Result ℕ Failed → ℕ
length_of (Ok n) = n
length_of (Err e) = e.length

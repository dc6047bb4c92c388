-- Small changes of a run.
--   put_process, put_link, put_count   == a run with one record, one link, or the count replaced
--   with_links r l                   == a run with other links
-- Assumes nothing.
use Rattle.std.specs.Prelude.{ℕ, ◌&&◌, List, eqb}
use Rattle.base.specs.Choice.{choose}
use Rattle.steps.specs.declared.Message.{Message}
use Rattle.steps.specs.declared.Process.{Process}
use Rattle.checks.specs.Run.{Run}

unfoldable pub put_process : Run → ℕ → Process → Run
put_process r p x =
    record {
      waits = r.waits;
      start = r.start;
      edition = r.edition;
      count = r.count;
      process = λ q. choose (eqb q p) x (r.process q);
      link = r.link;
    }

abbrev pub with_links : Run → (ℕ → ℕ → List Message) → Run
with_links r l = record { waits = r.waits; start = r.start; edition = r.edition; count = r.count; process = r.process; link = l }

unfoldable pub put_link : Run → ℕ → ℕ → List Message → Run
put_link r a b ms = with_links r (λ x y. choose (eqb x a && eqb y b) ms (r.link x y))

unfoldable pub put_count : Run → ℕ → Run
put_count r c = record { waits = r.waits; start = r.start; edition = r.edition; count = c; process = r.process; link = r.link }

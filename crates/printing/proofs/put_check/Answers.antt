-- The text of a begun input from the area that its start left, or the line of its refusal.
use Rattle.inputs.proofs.Told.{begun_at, begun_refused}
use Rattle.program_text.specs.Program.{enough}
use Rattle.program_text.specs.ProgramLaws.{program_refused, program_begun, begun_right, begun_run}
use Rattle.printing.proofs.put_check.Goals as goal

pub put_begun-requires : goal.put_begun-requires
put_begun-requires c =
    let at = begun_at c.args.input.now enough c.begin.ensures.answer c.in-Ok.is in
    record {
      end_is = at.end_is;
      picks_is = at.picks_is;
      right = begun_right _ at.begun c.begin.ensures.area;
      first = begun_run _ at.begun c.begin.ensures.area;
      room = rw (program_begun _ at.begun) at c.requires;
    }

pub put_refused-requires : goal.put_refused-requires
put_refused-requires c =
    let no = begun_refused c.args.input.now enough c.begin.ensures.answer c.in-Err.is in
    rw c.from.ensures (rw (program_refused _ no.0 no.1) at c.requires)

pub returns-in-Ok : goal.returns-in-Ok
returns-in-Ok c =
    let at = begun_at c.args.input.now enough c.begin.ensures.answer c.in-Ok.is in
    rw (program_begun _ at.begun) c.put_begun.ensures

pub returns-in-Err : goal.returns-in-Err
returns-in-Err c =
    let no = begun_refused c.args.input.now enough c.begin.ensures.answer c.in-Err.is in
    rw (program_refused _ no.0 no.1, ← c.from.ensures) c.put_refused.ensures

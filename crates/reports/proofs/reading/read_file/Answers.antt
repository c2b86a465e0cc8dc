use Rattle.std.proofs.Common.{◌≡◌}
use Rattle.reports.specs.Reading.{read_at_most}
use Rattle.reports.proofs.Enough.{first_bytes}
use Rattle.reports.proofs.reading.read_file.Goals as goal

pub returns : goal.returns
returns g c =
    let source : c.take.result.inner ≡ c.args.input = c.take.ensures.inner in
    first_bytes (g.R.Read.remaining c.args.input) c.take.result.limit read_at_most c.read_to_end.new.buf.items c.new-file.result.items c.take.ensures.limit c.new-file.ensures.items
    (rw source at c.in_ok-read_to_end.ensures.bytes)

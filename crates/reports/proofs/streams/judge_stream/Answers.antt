use Rattle.std.proofs.Common.{◌∙◌}
use Rattle.std.proofs.lemmas.Result.{on_ok_weaker}
use Rattle.reports.proofs.Enough.{printed_read}
use Rattle.reports.proofs.streams.judge_stream.Goals as goal

pub returns : goal.returns
returns g c =
    on_ok_weaker c.write_all.result
    (λ written. printed_read (g.R.Read.remaining c.args.input) (g.W.Write.contents c.args.output.now) (g.W.Write.contents c.write_all.new.self) c.in_ok-file.file.items c.deref.result.now
    c.judge_line-line.result.bytes c.as_bytes.result.now c.in_ok-file.ensures c.deref.ensures.value c.judge_line-line.ensures.line (c.as_bytes.ensures.value ∙ c.as_str-text.ensures.value) written) c.write_all.ensures.bytes

use Rattle.std.proofs.Common.{◌∙◌}
use Rattle.std.proofs.lemmas.Result.{on_ok_weaker}
use Rattle.dump.proofs.Whole.{written_read}
use Rattle.dump.proofs.streams.dump_stream.Goals as goal

pub returns : goal.returns
returns g c =
    on_ok_weaker c.write_all.result
    (λ written. written_read (g.R.Read.remaining c.args.input) (g.W.Write.contents c.args.output.now) (g.W.Write.contents c.write_all.new.self) c.in_ok-file.file.items c.deref.result.now
    c.as_bytes.result.now c.in_ok-file.ensures c.deref.ensures.value (c.as_bytes.ensures.value ∙ c.as_str-text.ensures.value ∙ c.dump_text-printed.ensures) written) c.write_all.ensures.bytes

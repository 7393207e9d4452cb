use Rattle.std.proofs.Common.{List, ℕ, ◌+◌, ◌*◌, refl, ap, ◌∙◌}
use Rattle.nb_host.specs.Image.{overwritten}
use Rattle.nb_format.proofs.Writing.{filled_more}
use Rattle.nb_format.proofs.snap_writer.Filling.add.Goals as goal

pub returns-clause-filled : goal.returns-clause-filled
returns-clause-filled g c = λ bodies tells filled.
    let file = (g.H.Host.meaning.contents c.args.host.now).file c.args.self.file in
    let put = (c.in_ok-write_at.ensures.written tells).file ∙ ap (λ (at : ℕ). overwritten at c.encode.result file) c.snapshot_length.ensures
    ∙ ap (λ (w : List ℕ). overwritten (32 + 64 * c.args.self.added) w file) c.encode.ensures.bytes in
    filled_more c.args.self _ file _ bodies c.args.body.now filled (record { plan = refl; added = refl; last = refl }) c.args.self.few c.requires.room
    (c.encode.ensures.stored c.requires.valid) c.requires.rises put

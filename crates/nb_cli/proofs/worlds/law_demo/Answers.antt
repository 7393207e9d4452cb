use Rattle.std.proofs.Common.{◌≡◌, ◌⊎◌, inl, inr, ℕ, ap, sym, subst}
use Rattle.nb_host.specs.declared.host.Channel.TheVariants as channels
use Rattle.nb_host.specs.Image.{Image}
use Rattle.nb_engine.specs.Represents.{IsSoundImage}
use Rattle.nb_cli.specs.declared.words.Job.TheVariants as job
use Rattle.nb_cli.proofs.Extending.{same_grows, extends_same, demo_extends}
use Rattle.nb_cli.proofs.Sounding.{sound_demo}
use Rattle.nb_cli.proofs.worlds.law_demo.Goals as goal

pub returns-clause-sound : goal.returns-clause-sound
returns-clause-sound c seed count target old new few sound leads = elim leads.leads [
  | inl same ↦ subst (λ (i : Image). IsSoundImage i) (sym same) sound
  | inr demo ↦ sound_demo c.law_acknowledged.ensures.line seed count target few demo sound
]

pub returns-clause-extends : goal.returns-clause-extends
returns-clause-extends c seed count target pace old new sound leads = elim leads.leads [
  | inl same ↦
      extends_same (job.Demo seed count target pace) old new (ap (λ (i : Image). i.file) same)
      (same_grows (old.said channels.Out) (new.said channels.Out) (ap (λ (i : Image). i.said channels.Out) same))
  | inr demo ↦ demo_extends seed count target pace old new demo
]

use Rattle.std.proofs.Common.{◌≡◌, ℕ, List, ◌++◌, ap, sym, ◌∙◌, append_assoc, arith}
use Rattle.std.proofs.lemmas.List.{append-nil}
use Rattle.nb_format.specs.Lines.{folder_line}
use Rattle.nb_format.specs.ParamsText.{canonical_line}
use Rattle.nb_cli.proofs.Shown.{first_of, first_of-more, lines-all}
use Rattle.nb_cli.proofs.show_command.folder_text.Goals as goal

pub loop-which-init : goal.loop-which-init
loop-which-init c = record {
  said = c.in_ok-text.ensures.items ∙ c.bytes.ensures.value ∙ c.folder_line-folder.ensures ∙ sym (append-nil _);
  some = omega arith;
}

pub loop-which-preserved : goal.loop-which-preserved
loop-which-preserved c =
    let shown = c.args.shown.now in
    let folder = folder_line shown.time shown.ticks shown.target shown.count shown.gone in
    let line = canonical_line shown.params in
    let n = c.loop-which.which in
    let added = c.in_ok-extend_from_slice.ensures.items ∙ ap (λ (t : List ℕ). c.loop-which.text.items ++ t) (c.bytes-in-loop-which.ensures.value ∙ c.param_line.ensures)
    ∙ ap (λ (t : List ℕ). t ++ line n) c.loop-which.invariant.said ∙ append_assoc folder (first_of line n) (line n)
    ∙ ap (λ (t : List ℕ). folder ++ t) (sym (first_of-more line n)) in
    record { said = added; some = omega (arith, c.loop-which-test.true) }

pub returns : goal.returns
returns c =
    let shown = c.args.shown.now in
    let folder = folder_line shown.time shown.ticks shown.target shown.count shown.gone in
    let line = canonical_line shown.params in
    let all : c.loop-which.which ≡ 7 = omega (arith, c.loop-which-test.false, c.loop-which.invariant.some) in
    c.loop-which.invariant.said ∙ ap (λ (n : ℕ). folder ++ first_of line n) all ∙ ap (λ (t : List ℕ). folder ++ t) (lines-all shown.params)

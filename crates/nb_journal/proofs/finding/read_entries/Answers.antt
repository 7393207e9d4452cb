use Rattle.std.proofs.Common.{◌≡◌, ◌≢◌, IsTrue, ℕ, ◌+◌, ◌%◌, ◌≤◌, List, length, slice_index, refl, sym, ap, subst, ◌∙◌, arith, rules}
use Rattle.nb_host.specs.Image.{Image}
use Rattle.nb_host.specs.Meaning.{asked_of_none}
use Rattle.nb_host.proofs.Callers.{leads_none, stays_both, stays_contents}
use Rattle.nb_journal.specs.Counters.{Counters}
use Rattle.nb_journal.specs.Offsets.{offset_of, page_end}
use Rattle.nb_journal.specs.Reading.{HoldsPage, IsReadTo}
use Rattle.nb_journal.proofs.Found.{slot_is, read_more, read_all, read_bad, short_found, holds_on, within_on}
use Rattle.nb_journal.proofs.finding.read_entries.Goals as goal

pub entries-init : goal.entries-init
entries-init g c = record {
  read = λ file tells is long read. read;
  held = λ file tells is long on. absurd (on (omega (arith, c.requires)));
  within = λ on. absurd (on (omega (arith, c.requires)));
  leads = leads_none g.H.Host.meaning c.args.host.now (λ image. refl);
  faults = refl;
  tally = refl;
}

pub entries-preserved : goal.entries-preserved
entries-preserved g c =
    let n = c.journal.inside.entries in
    let n_is : n ≡ c.entries.journal.entries = ap (λ (k : Counters). k.entries) c.journal.view_is in
    let more : c.with-journal.result.entries ≡ n + 1 =
    ap (λ (k : Counters). k.entries) c.with-journal.ensures.counters ∙ ap (λ (k : ℕ). k + 1) (sym n_is) in
    let same = stays_contents c.entries.invariant.leads in
    let within : offset_of (page_end n) ≤ c.args.len =
    c.in-Ok.ensures.within (λ on. subst (λ (k : ℕ). offset_of (page_end k) ≤ c.args.len) (sym n_is)
    (c.entries.invariant.within (subst (λ (k : ℕ). k % 128 ≢ 0) n_is on))) in
    let holds : (file : List ℕ) → IsTrue g.H.Host.meaning.tells → (g.H.Host.meaning.contents c.args.host.now).file 2 ≡ file
    → c.args.len ≡ length file → HoldsPage n file c.fill.new.page =
    λ file tells is long. c.in-Ok.ensures.held file tells (ap (λ (i : Image). i.file 2) same ∙ is) long
    (λ on. subst (λ (k : ℕ). HoldsPage k file c.entries.page) (sym n_is)
    (c.entries.invariant.held file tells is long (subst (λ (k : ℕ). k % 128 ≢ 0) n_is on))) in
    record {
      read = λ file tells is long read.
          let held = holds file tells is long in
          subst (λ (k : Counters). IsReadTo file k) (sym c.with-journal.ensures.counters)
          (read_more n c.in-Some.entry file c.slot-bytes.result c.entries.journal n_is
          (c.entries.invariant.read file tells is long read) held.whole
          (λ i small. ap (λ (w : List ℕ). slice_index w i) c.slot-bytes.ensures.cut ∙ slot_is n held i small)
          c.in-Some.ensures.some.0 c.in-Some.ensures.some.1);
      held = λ file tells is long on.
          subst (λ (k : ℕ). HoldsPage k file c.fill.new.page) (sym more)
          (holds_on n (subst (λ (k : ℕ). k % 128 ≢ 0) more on) (holds file tells is long));
      within = λ on.
          subst (λ (k : ℕ). offset_of (page_end k) ≤ c.args.len) (sym more)
          (within_on n (subst (λ (k : ℕ). k % 128 ≢ 0) more on) within);
      leads = stays_both c.entries.invariant.leads c.in-Ok.ensures.ran.leads;
      faults = search rules;
      tally = c.in-Ok.ensures.ran.tally ∙ c.entries.invariant.tally;
    }

pub entries-smaller : goal.entries-smaller
entries-smaller g c =
    let n = c.journal.inside.entries in
    let n_is : n ≡ c.entries.journal.entries = ap (λ (k : Counters). k.entries) c.journal.view_is in
    let more : c.with-journal.result.entries ≡ n + 1 =
    ap (λ (k : Counters). k.entries) c.with-journal.ensures.counters ∙ ap (λ (k : ℕ). k + 1) (sym n_is) in
    let within : offset_of (page_end n) ≤ c.args.len =
    c.in-Ok.ensures.within (λ on. subst (λ (k : ℕ). offset_of (page_end k) ≤ c.args.len) (sym n_is)
    (c.entries.invariant.within (subst (λ (k : ℕ). k % 128 ≢ 0) n_is on))) in
    omega arith

pub returns-in-Err-clause-found : goal.returns-in-Err-clause-found
returns-in-Err-clause-found g c = λ file tells is long started read.
    let n_is = ap (λ (k : Counters). k.entries) c.journal.view_is in
    short_found c.journal.inside.entries file c.entries.journal c.args.len c.in-Err.error n_is long started
    (c.entries.invariant.read file tells is long read) (λ offset bad. c.in-Err.ensures.damaged offset (cc))

pub returns-then-not-counts-clause-found : goal.returns-then-not-counts-clause-found
returns-then-not-counts-clause-found g c = λ file tells is long started read.
    let n = c.journal.inside.entries in
    let n_is = ap (λ (k : Counters). k.entries) c.journal.view_is in
    let same = stays_contents c.entries.invariant.leads in
    let held : HoldsPage n file c.fill.new.page =
    c.in-Ok.ensures.held file tells (ap (λ (i : Image). i.file 2) same ∙ is) long
    (λ on. subst (λ (k : ℕ). HoldsPage k file c.entries.page) (sym n_is)
    (c.entries.invariant.held file tells is long (subst (λ (k : ℕ). k % 128 ≢ 0) n_is on))) in
    read_all n file c.slot-bytes.result c.entries.journal n_is (c.entries.invariant.read file tells is long read) held.whole
    (λ i small. ap (λ (w : List ℕ). slice_index w i) c.slot-bytes.ensures.cut ∙ slot_is n held i small)
    (λ open'. asked_of_none (c.if-not-counts.ensures.1 open'))

pub returns-in-None-clause-found : goal.returns-in-None-clause-found
returns-in-None-clause-found g c = λ file tells is long started read.
    let n = c.journal.inside.entries in
    let n_is = ap (λ (k : Counters). k.entries) c.journal.view_is in
    let same = stays_contents c.entries.invariant.leads in
    let held : HoldsPage n file c.fill.new.page =
    c.in-Ok.ensures.held file tells (ap (λ (i : Image). i.file 2) same ∙ is) long
    (λ on. subst (λ (k : ℕ). HoldsPage k file c.entries.page) (sym n_is)
    (c.entries.invariant.held file tells is long (subst (λ (k : ℕ). k % 128 ≢ 0) n_is on))) in
    read_bad n file c.slot-bytes.result c.entries.journal c.offset_of.result n_is started
    (c.entries.invariant.read file tells is long read) held.whole c.slot-bytes.ensures.long
    (λ i small. ap (λ (w : List ℕ). slice_index w i) c.slot-bytes.ensures.cut ∙ slot_is n held i small)
    (c.if-not-counts.ensures.0 refl) (c.in-None.ensures.none refl) c.offset_of.ensures

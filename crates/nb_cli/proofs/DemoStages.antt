-- How far `demo` came: what the folder is then, and what was said.
use Rattle.std.proofs.Common.{◌≡◌, ◌≢◌, ◌≤◌, ◌<◌, ◌⊎◌, inl, inr, ℕ, zero, suc, Bool, IsTrue, List, [], ◌∷◌, ◌++◌, length, refl, ap, sym, subst, ◌∙◌, arith, append_assoc}
use Rattle.std.specs.Prelude.{Contains}
use Rattle.std.proofs.lemmas.Bool.{cases_eq}
use Rattle.nb_host.specs.declared.host.Channel.{Channel}
use Rattle.nb_host.specs.declared.host.Channel.TheVariants as channels
use Rattle.nb_host.specs.Image.{Image, Says, SaysPart}
use Rattle.nb_model.specs.Leapfrog.{escaped_count}
use Rattle.nb_format.specs.Lines.{started_line, done_line}
use Rattle.nb_format.specs.Snapshot.{IsSnapshot}
use Rattle.nb_journal.specs.Form.{IsFresh}
use Rattle.nb_journal.specs.Offsets.{journal_file}
use Rattle.nb_engine.specs.Files.{params_file, init_file}
use Rattle.nb_engine.specs.Histories.{History, IsHistory, run_of, ticks_of, legged}
use Rattle.nb_engine.specs.Represents.{snap_of, RepresentsRun}
use Rattle.nb_engine.specs.Sessions.{ticks_to, GoLeads, IsLed}
use Rattle.nb_engine.specs.Start.{Start, started, RepresentsStart, StartLeads}
use Rattle.nb_engine.specs.Steps.{lines_after, SaidPrefixOf, played}
use Rattle.nb_engine.proofs.Callers.{represents_kept, started_history}
use Rattle.nb_cli.specs.Make.{made_bodies, made_start, HasMade, IsMadeFrom, MakeLeads}
use Rattle.nb_cli.specs.Telling.{IsStartDone, IsGoDone, IsDoneThenSaid, LeadsThenSays, LeadsWithoutErr}
use Rattle.nb_cli.specs.Demo.{IsDemoReady, demo_list, demo_history, summary_line, demo_text, IsDemoDone, DemoLeads}
use Rattle.nb_cli.proofs.DemoCalls.{Out≢Err}
use Rattle.nb_cli.proofs.MadeStarts.{length-made, made_ready, made_only}
use Rattle.nb_cli.proofs.DemoTexts.{front_none, front_more, front_behind, lines_front, lines_none, aimed_away, aimed_ticks, led_state, led_ticks, last_snapshot_led}

-- ---- files that calls leave alone

pub two_apart : (a b n : ℕ) → a ≢ n → b ≢ n → Contains (a ∷ b ∷ []) n → ⊥
two_apart a b n first second (zero, below, is) = first is
two_apart a b n first second (suc zero, below, is) = second is
two_apart a b n first second (suc (suc k), below, is) = absurd (omega arith)

three_apart : (a b c n : ℕ) → a ≢ n → b ≢ n → c ≢ n → Contains (a ∷ b ∷ c ∷ []) n → ⊥
three_apart a b c n first second third (zero, below, is) = first is
three_apart a b c n first second third (suc zero, below, is) = second is
three_apart a b c n first second third (suc (suc zero), below, is) = third is
three_apart a b c n first second third (suc (suc (suc k)), below, is) = absurd (omega arith)

pub kept_made : {seed count : ℕ} {old new : ℕ → List ℕ} → new params_file ≡ old params_file → new init_file ≡ old init_file
    → HasMade seed count old → HasMade seed count new
kept_made {seed = seed} {count = count} params init made = record {
  params = params ∙ made.params;
  init = subst (λ (bytes : List ℕ). IsSnapshot bytes (made_bodies seed count) 0) (sym init) made.init;
}

pub same_made : {seed count : ℕ} {old new : ℕ → List ℕ} → new ≡ old → HasMade seed count old → HasMade seed count new
same_made same made = kept_made (ap (λ (f : ℕ → List ℕ). f params_file) same) (ap (λ (f : ℕ → List ℕ). f init_file) same) made

file_at : {old new : ℕ → List ℕ} → new ≡ old → (number : ℕ) → new number ≡ old number
file_at same number = ap (λ (f : ℕ → List ℕ). f number) same

same_represents : (h : History) {old new : Image} → new.file ≡ old.file → RepresentsRun h old → RepresentsRun h new
same_represents h {old = old} {new = new} same stands =
    represents_kept h old new stands (file_at same journal_file) (file_at same init_file) (file_at same _)
    (λ j some within. file_at same (snap_of j))

-- the journal is none still, where the two files were made
pub fresh_made : {seed count target : ℕ} {old made : Image} → IsDemoReady old.file target → IsMadeFrom seed count old made
    → IsFresh (made.file journal_file)
fresh_made can makes =
    let same = makes.others.others journal_file (two_apart params_file init_file journal_file (λ is. omega (arith, is)) (λ is. omega (arith, is))) in
    subst IsFresh (sym same) can.fresh

module _ (honest : Bool) (seed count target : ℕ) where
  abbrev start_made : Start
  start_made = made_start seed count

  abbrev first_line : List ℕ
  first_line = started_line count 0

  abbrev tick_lines : List ℕ
  tick_lines = lines_after (run_of (demo_history seed count target)) 0 target

  abbrev last_line : List ℕ
  last_line = done_line target target (escaped_count (demo_list seed count target))

  abbrev sum_line : List ℕ
  sum_line = summary_line seed count target

  -- ---- the run is started

  pub record IsStartedOn (old new : Image) : Type 0 where
    pub represents : RepresentsRun (started (made_start seed count)) new
    pub history : IsHistory (started (made_start seed count))
    pub made : HasMade seed count new.file
    pub out : new.said channels.Out ≡ old.said channels.Out ++ started_line count 0
    pub err : new.said channels.Err ≡ old.said channels.Err

  line_of_start : {old new : Image} {line : List ℕ} → HasMade seed count old.file → IsStartDone old new line → line ≡ first_line
  line_of_start made did =
      let same = made_only seed count made did.ready in
      did.line_is ∙ ap (λ (s : Start). started_line (length s.bodies) s.time) same
      ∙ ap (λ (n : ℕ). started_line n 0) (length-made seed count)

  pub started_on : {old made new : Image} → IsDemoReady old.file target → IsMadeFrom seed count old made
      → IsDoneThenSaid (StartLeads honest) IsStartDone made new → IsStartedOn old new
  started_on {made = made} {new = new} can makes told =
      let did = told.done in
      let ready = made_ready seed count made.file makes.made (fresh_made can makes) in
      let same = made_only seed count makes.made did.ready in
      let others = told.leads.others in
      let params = others.others params_file (three_apart _ _ _ params_file (λ is. omega (arith, is)) (λ is. omega (arith, is)) (λ is. omega (arith, is))) in
      let init = others.others init_file (three_apart _ _ _ init_file (λ is. omega (arith, is)) (λ is. omega (arith, is)) (λ is. omega (arith, is))) in
      let line = line_of_start makes.made did in
      record {
        represents = same_represents (started start_made) told.files
            (subst (λ (s : Start). RepresentsStart s told.between) same did.begun);
        history = started_history made.file start_made ready.starts ready.light;
        made = same_made told.files (kept_made params init makes.made);
        out = told.out ∙ ap (λ (l : List ℕ). told.between.said channels.Out ++ l) line
            ∙ ap (λ (f : Channel → List ℕ). f channels.Out ++ first_line) (others.said ∙ makes.others.said);
        err = told.err ∙ ap (λ (f : Channel → List ℕ). f channels.Err) (others.said ∙ makes.others.said);
      }

  -- ---- the run is led

  pub record IsLedOn (old new : Image) : Type 0 where
    pub represents : RepresentsRun (played target (demo_history seed count target)) new
    pub made : HasMade seed count new.file
    pub snapshot : (file : ℕ) → (target ≡ 0 → file ≡ init_file) → (target ≢ 0 → file ≡ snap_of target)
        → IsSnapshot (new.file file) (demo_list seed count target) target
    pub out : new.said channels.Out ≡ old.said channels.Out ++ tick_lines ++ last_line
    pub err : new.said channels.Err ≡ old.said channels.Err

  ticks_are : ticks_to target (started start_made) ≡ target
  ticks_are = omega arith

  record IsGoneTo (old between : Image) (line : List ℕ) : Type 0 where
    said : between.said channels.Out ≡ old.said channels.Out ++ tick_lines
    line_is : line ≡ last_line

  gone_to : {old between : Image} {line : List ℕ} → IsHistory (started start_made) → RepresentsRun (started start_made) old
      → IsGoDone target old between line → IsGoneTo old between line
  gone_to {old = old} {between = between} history represents did =
      let led = did.led (started start_made) history represents in
      let h = demo_history seed count target in
      let ticks : did.done.ticks ≡ target = led.ticks_is ∙ led_ticks target start_made ∙ ticks_are in
      let gone : did.done.gone ≡ escaped_count (demo_list seed count target) =
      led.gone_is ∙ ap escaped_count (led_state target start_made) in
      record {
        said = led.said ∙ ap (λ (k : ℕ). old.said channels.Out ++ lines_after (run_of h) k (ticks_to target (started start_made)))
            (aimed_ticks target start_made)
            ∙ ap (λ (n : ℕ). old.said channels.Out ++ lines_after (run_of h) 0 n) ticks_are;
        line_is = did.line_is ∙ ap (λ (t : ℕ). done_line t did.done.ticks did.done.gone) did.there
            ∙ ap (λ (k : ℕ). done_line target k did.done.gone) ticks ∙ ap (done_line target target) gone;
      }

  pub led_on : {old middle new : Image} → IsStartedOn old middle
      → IsDoneThenSaid (GoLeads honest target) (IsGoDone target) middle new → IsLedOn middle new
  led_on {middle = middle} {new = new} begun told =
      let did = told.done in
      let led = did.led (started start_made) begun.history begun.represents in
      let apart = told.leads.session.apart in
      let gone = gone_to begun.history begun.represents did in
      record {
        represents = same_represents (played target (demo_history seed count target)) told.files
            (subst (λ (n : ℕ). RepresentsRun (played n (demo_history seed count target)) told.between) ticks_are led.represents);
        made = same_made told.files
            (kept_made (apart.files params_file (inl (omega arith))) (apart.files init_file (inl (omega arith))) begun.made);
        snapshot = λ file none some.
            subst (λ (f : ℕ → List ℕ). IsSnapshot (f file) (demo_list seed count target) target) (sym told.files)
            (last_snapshot_led target start_made refl did.there led file none some);
        out = told.out ∙ ap (λ (l : List ℕ). told.between.said channels.Out ++ l) gone.line_is
            ∙ ap (λ (l : List ℕ). l ++ last_line) gone.said;
        err = told.err ∙ apart.err;
      }

  -- ---- fronts of the text

  start_front : {old made image : Image} → IsMadeFrom seed count old made → LeadsThenSays (StartLeads honest) IsStartDone made image
      → SaidPrefixOf (demo_text seed count target) (old.said channels.Out) (image.said channels.Out)
  start_front {old = old} {image = image} makes step =
      let before = old.said channels.Out in
      let now = image.said channels.Out in
      let out : step.between.said channels.Out ≡ before =
      ap (λ (f : Channel → List ℕ). f channels.Out) (step.leads.others.said ∙ makes.others.said) in
      elim step.told [
        | inl same ↦ front_none (demo_text seed count target) before now (same ∙ out)
        | inr some ↦
            let line = line_of_start makes.made some.1 in
            let front : SaidPrefixOf first_line before now =
            subst (λ (l : List ℕ). SaidPrefixOf l before now) line
            (subst (λ (l : List ℕ). SaidPrefixOf some.0 l now) out some.2) in
            front_more (first_line ++ tick_lines ++ last_line) sum_line before now
            (front_more (first_line ++ tick_lines) last_line before now (front_more first_line tick_lines before now front))
      ]

  ticks_front : {middle between : Image} → IsTrue honest → IsHistory (started start_made) → RepresentsRun (started start_made) middle
      → GoLeads honest target middle between
      → SaidPrefixOf tick_lines (middle.said channels.Out) (between.said channels.Out)
  ticks_front {middle = middle} {between = between} is_honest history represents leads =
      let before = middle.said channels.Out in
      let now = between.said channels.Out in
      elim (leads.goes is_honest (started start_made) history represents) [
        | inl still ↦
            front_none tick_lines before now
            (lines_none (run_of (started start_made)) (ticks_of (started start_made)) still.done before now still.few still.said)
        | inr on ↦ elim (cases_eq target 0) [
          | inl none ↦
              let few : on.1.done ≤ 0 = omega (arith, on.1.few, ticks_are, none) in
              front_none tick_lines before now
              (lines_none (run_of (legged target (started start_made))) (ticks_of (legged target (started start_made))) on.1.done before now few
              on.1.said)
          | inr some ↦
              let aimed : legged target (started start_made) ≡ demo_history seed count target =
              sym (aimed_away target (started start_made) some) in
              subst (λ (h : History). SaidPrefixOf (lines_after (run_of h) 0 target) before now) aimed
              (lines_front (run_of (legged target (started start_made))) 0 on.1.done target before now (omega (arith, on.1.few, ticks_are))
              on.1.said)
        ]
      ]

  -- behind the line of the start
  behind_first : {old middle : Image} (between : Image) → IsStartedOn old middle
      → between.said channels.Out ≡ middle.said channels.Out ++ tick_lines
      → between.said channels.Out ≡ old.said channels.Out ++ (first_line ++ tick_lines)
  behind_first {old = old} between begun said =
      said ∙ ap (λ (l : List ℕ). l ++ tick_lines) begun.out ∙ append_assoc (old.said channels.Out) first_line tick_lines

  go_front : {old middle image : Image} → IsTrue honest → IsStartedOn old middle
      → LeadsThenSays (GoLeads honest target) (IsGoDone target) middle image
      → SaidPrefixOf (demo_text seed count target) (old.said channels.Out) (image.said channels.Out)
  go_front {old = old} {middle = middle} {image = image} is_honest begun step =
      let before = old.said channels.Out in
      let between = step.between.said channels.Out in
      let now = image.said channels.Out in
      let front : SaidPrefixOf (first_line ++ tick_lines ++ last_line) before now = elim step.told [
        | inl same ↦
            subst (λ (l : List ℕ). SaidPrefixOf (first_line ++ tick_lines ++ last_line) before l) (sym same)
            (front_more (first_line ++ tick_lines) last_line before between
            (front_behind first_line tick_lines before (middle.said channels.Out) between begun.out
            (ticks_front is_honest begun.history begun.represents step.leads)))
        | inr some ↦
            let gone = gone_to begun.history begun.represents some.1 in
            front_behind (first_line ++ tick_lines) last_line before between now (behind_first step.between begun gone.said)
            (subst (λ (l : List ℕ). SaidPrefixOf l between now) gone.line_is some.2)
      ] in
      front_more (first_line ++ tick_lines ++ last_line) sum_line before now front

  -- what was said before the last line
  said_before : {old middle last : Image} → IsStartedOn old middle → IsLedOn middle last
      → last.said channels.Out ≡ old.said channels.Out ++ (first_line ++ tick_lines ++ last_line)
  said_before {old = old} begun led =
      let before = old.said channels.Out in
      led.out ∙ ap (λ (l : List ℕ). l ++ tick_lines ++ last_line) begun.out
      ∙ ap (λ (l : List ℕ). l ++ last_line) (append_assoc before first_line tick_lines)
      ∙ append_assoc before (first_line ++ tick_lines) last_line

  sum_front : {old middle last image : Image} → IsStartedOn old middle → IsLedOn middle last
      → SaysPart channels.Out sum_line last image
      → SaidPrefixOf (demo_text seed count target) (old.said channels.Out) (image.said channels.Out)
  sum_front {old = old} {last = last} {image = image} begun led part =
      front_behind (first_line ++ tick_lines ++ last_line) sum_line (old.said channels.Out) (last.said channels.Out)
      (image.said channels.Out) (said_before begun led) (part.0, part.1, part.2.said)

  -- ---- at each moment

  pub leads_making : {old image : Image} → IsDemoReady old.file target → MakeLeads seed count old image
      → DemoLeads honest seed count target old image
  leads_making can (inl same) = record { leads = inl same; err = ap (λ (i : Image). i.said channels.Err) same }
  leads_making {old = old} {image = image} can (inr part) =
      let out = ap (λ (f : Channel → List ℕ). f channels.Out) part.others.said in
      record {
        leads = inr (record {
          can = can;
          does = inl (record {
            can = part.can;
            first = part.first;
            whole = part.whole;
            others = λ number params init. part.others.others number (two_apart params_file init_file number (λ is. params (sym is)) (λ is. init (sym is)));
            out = out;
          });
          out = λ _. front_none (demo_text seed count target) (old.said channels.Out) (image.said channels.Out) out;
        });
        err = ap (λ (f : Channel → List ℕ). f channels.Err) part.others.said;
      }

  pub leads_starting : {old made image : Image} → IsDemoReady old.file target → IsMadeFrom seed count old made
      → LeadsWithoutErr (LeadsThenSays (StartLeads honest) IsStartDone) made image → DemoLeads honest seed count target old image
  leads_starting {made = made} can makes step = record {
    leads = inr (record {
      can = can;
      does = inr (record { made = made; makes = makes; next = inl step.leads });
      out = λ _. start_front makes step.leads;
    });
    err = step.err ∙ ap (λ (f : Channel → List ℕ). f channels.Err) makes.others.said;
  }

  pub leads_going : {old made middle image : Image} → IsDemoReady old.file target → IsMadeFrom seed count old made
      → IsDoneThenSaid (StartLeads honest) IsStartDone made middle
      → LeadsWithoutErr (LeadsThenSays (GoLeads honest target) (IsGoDone target)) middle image → DemoLeads honest seed count target old image
  leads_going {made = made} {middle = middle} can makes told step =
      let begun = started_on can makes told in
      record {
        leads = inr (record {
          can = can;
          does = inr (record { made = made; makes = makes; next = inr (record { between = middle; does = told; next = inl step.leads }) });
          out = λ is_honest. go_front is_honest begun step.leads;
        });
        err = step.err ∙ begun.err;
      }

  pub leads_summing : {old made middle last image : Image} → IsDemoReady old.file target → IsMadeFrom seed count old made
      → IsDoneThenSaid (StartLeads honest) IsStartDone made middle
      → IsDoneThenSaid (GoLeads honest target) (IsGoDone target) middle last
      → SaysPart channels.Out sum_line last image → DemoLeads honest seed count target old image
  leads_summing {made = made} {middle = middle} {last = last} can makes told gone part =
      let begun = started_on can makes told in
      let led = led_on begun gone in
      record {
        leads = inr (record {
          can = can;
          does = inr (record {
            made = made;
            makes = makes;
            next = inr (record {
              between = middle;
              does = told;
              next = inr (record {
                between = last;
                does = gone;
                next = record { files = part.2.files; out = (part.0, part.1, part.2.said) };
              });
            });
          });
          out = λ _. sum_front begun led part;
        });
        err = part.2.others channels.Err Out≢Err ∙ led.err ∙ begun.err;
      }

  -- ---- at the end

  pub demo_done : {old made middle last new : Image} → IsDemoReady old.file target → IsMadeFrom seed count old made
      → IsDoneThenSaid (StartLeads honest) IsStartDone made middle
      → IsDoneThenSaid (GoLeads honest target) (IsGoDone target) middle last
      → Says channels.Out sum_line last new → IsDemoDone honest seed count target old new
  demo_done {old = old} {made = made} {middle = middle} {last = last} {new = new} can makes told gone says =
      let begun = started_on can makes told in
      let led = led_on begun gone in
      record {
        can = can;
        does = record {
          made = made;
          makes = makes;
          next = record {
            between = middle;
            does = told;
            next = record { between = last; does = gone; next = says };
          };
        };
        made = same_made says.files led.made;
        represents = same_represents (played target (demo_history seed count target)) says.files led.represents;
        led = record {
          begun = middle;
          ended = gone.between;
          done = gone.done.done;
          led = subst (λ (n : ℕ). IsLed n (demo_history seed count target) middle gone.done.done gone.between) ticks_are
              (gone.done.led (started start_made) begun.history begun.represents);
          files = says.files ∙ gone.files;
        };
        out = says.said ∙ ap (λ (l : List ℕ). l ++ sum_line) (said_before begun led)
            ∙ append_assoc (old.said channels.Out) (first_line ++ tick_lines ++ last_line) sum_line;
        err = says.others channels.Err Out≢Err ∙ led.err ∙ begun.err;
      }

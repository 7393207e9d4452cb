-- A run of `make`, with its line: where it leads.
use Rattle.std.proofs.Common.{◌≡◌, ◌≢◌, ◌⊎◌, inl, inr, ℕ, zero, suc, ◌≤◌, Bool, IsTrue, List, [], ◌∷◌, ◌++◌, take, refl, ap, sym, subst, ◌∙◌, arith, append-nil}
use Rattle.std.specs.Prelude.{Contains}
use Rattle.nb_host.specs.declared.host.Channel.{Channel}
use Rattle.nb_host.specs.declared.host.Channel.TheVariants as channels
use Rattle.nb_host.specs.Image.{Image, Says, SaysPart}
use Rattle.nb_host.specs.Meaning.{HostModel, Leads, IsDurable}
use Rattle.nb_host.specs.Crashes.{Stays}
use Rattle.nb_host.proofs.Callers.{goes_on, leads_before, leads_more}
use Rattle.nb_format.specs.Lines.{made_line}
use Rattle.nb_engine.specs.Files.{params_file, init_file}
use Rattle.nb_engine.specs.Steps.{SaidPrefixOf}
use Rattle.nb_engine.proofs.Callers.{leads_from_durable}
use Rattle.nb_cli.specs.declared.words.Job.TheVariants as job
use Rattle.nb_cli.specs.Answer.{JobTouches}
use Rattle.nb_cli.specs.Make.{HasMade, IsMadeFrom, IsMakeDone, MakeLeads}
use Rattle.nb_cli.proofs.Runs.{Out≢Err}

neither : (number : ℕ) → number ≢ params_file → number ≢ init_file → Contains (params_file ∷ init_file ∷ []) number → ⊥
neither number first second (zero, below, is) = first (sym is)
neither number first second (suc zero, below, is) = second (sym is)
neither number first second (suc (suc k), below, is) = absurd (omega (arith, below))

others_still : {seed count : ℕ} {old now : Image} → MakeLeads seed count old now → (number : ℕ) → number ≢ params_file
    → number ≢ init_file → now.file number ≡ old.file number
others_still (inl same) number first second = ap (λ (image : Image). image.file number) same
others_still (inr partly) number first second = partly.others.others number (neither number first second)

said_still : {seed count : ℕ} {old now : Image} → MakeLeads seed count old now → now.said ≡ old.said
said_still (inl same) = ap (λ (image : Image). image.said) same
said_still (inr partly) = partly.others.said

-- only the two files were changed
touched_by_files : {honest : Bool} {files : ℕ → List ℕ} {seed count : ℕ} {old now : Image} → MakeLeads seed count old now
    → JobTouches honest files (job.Make seed count) old now
touched_by_files (inl same) =
    record { touches = inl same; err = ap (λ (image : Image). image.said channels.Err) same }
touched_by_files {old = old} (inr partly) =
    let out = ap (λ (f : Channel → List ℕ). f channels.Out) partly.others.said in
    record {
      touches = inr (record {
        can = partly.can;
        first = partly.first;
        whole = partly.whole;
        others = λ number first second. partly.others.others number (neither number first second);
        out = (0, omega arith, out ∙ sym (append-nil (old.said channels.Out)));
        said_last = inl out;
      });
      err = ap (λ (f : Channel → List ℕ). f channels.Err) partly.others.said;
    }

-- a front of the line was said
touched_by_line : {honest : Bool} {files : ℕ → List ℕ} {seed count : ℕ} {old middle now : Image} (line : List ℕ) → line ≡ made_line count
    → MakeLeads seed count old middle → IsMadeFrom seed count old middle → SaysPart channels.Out line middle now
    → JobTouches honest files (job.Make seed count) old now
touched_by_line {seed = seed} {count = count} {old = old} {now = now} line is leads made part =
    let out = ap (λ (f : Channel → List ℕ). f channels.Out) (said_still leads) in
    let whole = subst (λ (f : ℕ → List ℕ). HasMade seed count f) (sym part.2.files) made.made in
    record {
      touches = inr (record {
        can = made.can;
        first = inr whole.params;
        whole = inr whole;
        others = λ number first second.
            ap (λ (f : ℕ → List ℕ). f number) part.2.files ∙ others_still leads number first second;
        out = subst (λ (text : List ℕ). SaidPrefixOf text (old.said channels.Out) (now.said channels.Out)) is
            (part.0, part.1, part.2.said ∙ ap (λ (said : List ℕ). said ++ take part.0 line) out);
        said_last = inr whole;
      });
      err = part.2.others channels.Err Out≢Err ∙ ap (λ (f : Channel → List ℕ). f channels.Err) (said_still leads);
    }

-- over a host, without the line
pub leads_files : {H : Type 0} {m : HostModel H} {honest : Bool} {files : ℕ → List ℕ} {seed count : ℕ} {old new : H}
    → Leads m (MakeLeads seed count) old new → Leads m (JobTouches honest files (job.Make seed count)) old new
leads_files leads = leads_more leads (λ start image step. touched_by_files step)

-- The line is said once both files are whole, which is durable.
pub leads_line : {H : Type 0} {m : HostModel H} {honest : Bool} {files : ℕ → List ℕ} {seed count : ℕ} (line : List ℕ) {old middle new : H}
    → line ≡ made_line count → IsDurable m old → Leads m (MakeLeads seed count) old middle → IsDurable m middle
    → (IsTrue m.tells → IsMadeFrom seed count (m.contents old) (m.contents middle)) → Leads m (SaysPart channels.Out line) middle new
    → Leads m (JobTouches honest files (job.Make seed count)) old new
leads_line {H = H} {m = m} {honest = honest} {files = files} {seed = seed} {count = count} line {old = old} {middle = middle} {new = new} is before leads durable made said =
    leads_from_durable Behind (JobTouches honest files (job.Make seed count)) before led told where
      -- an image before the line, or behind the two files
      Behind : Image → Image → Type 0
      Behind start image =
          MakeLeads seed count start image
          ⊎ (MakeLeads seed count start (m.contents middle) × SaysPart channels.Out line (m.contents middle) image)

      led : Leads m Behind old new
      led = record {
        contents = λ tells. inr (leads.contents tells, said.contents tells);
        images = goes_on leads.images said.images (λ start image step. inl step)
            (λ start between image known one left two.
            let same = durable between known left in
            inr (
              subst (λ (i : Image). MakeLeads seed count start i) same one,
              subst (λ (i : Image). SaysPart channels.Out line i image) same two,
            ));
      }

      told : IsTrue m.tells → (image : Image) → Behind (m.contents old) image
          → JobTouches honest files (job.Make seed count) (m.contents old) image
      told tells image (inl step) = touched_by_files step
      told tells image (inr both) = touched_by_line line is both.0 (made tells) both.1

-- all of it is done
pub made_told : {seed count : ℕ} {old middle new : Image} (line : List ℕ) → line ≡ made_line count → IsMadeFrom seed count old middle
    → Says channels.Out line middle new → IsMakeDone seed count old new
made_told {seed = seed} {count = count} {old = old} line is made says = record {
  can = made.can;
  made = subst (λ (f : ℕ → List ℕ). HasMade seed count f) (sym says.files) made.made;
  others = λ number first second.
      ap (λ (f : ℕ → List ℕ). f number) says.files ∙ made.others.others number (neither number first second);
  out = says.said ∙ ap (λ (f : Channel → List ℕ). f channels.Out ++ line) made.others.said
      ∙ ap (λ (text : List ℕ). old.said channels.Out ++ text) is;
  err = says.others channels.Err Out≢Err ∙ ap (λ (f : Channel → List ℕ). f channels.Err) made.others.said;
}

-- behind the first sync
pub made_synced : {H : Type 0} {m : HostModel H} {seed count : ℕ} {old middle new : H} → Leads m Stays old middle
    → Leads m (MakeLeads seed count) middle new → Leads m (MakeLeads seed count) old new
made_synced synced wrote = leads_before (λ image. inl refl) synced wrote

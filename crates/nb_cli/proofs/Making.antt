-- What `make` writes: the lines of its parameters, and the snapshot of its bodies.
use Rattle.std.proofs.Common.{◌≡◌, ◌≢◌, ℕ, zero, suc, ◌+◌, ◌⊎◌, inl, inr, List, [], ◌∷◌, ◌++◌, length, length-append, refl, sym, ap, subst, ◌∙◌, add-one, append_assoc, arith, IsTrue}
use Rattle.std.specs.List.{flat_map}
use Rattle.std.proofs.lemmas.List.{append-nil, length_push}
use Rattle.nb_model.specs.declared.body.Body.{Body}
use Rattle.nb_host.specs.Crashes.{Stays, AgreesOutside}
use Rattle.nb_host.specs.Image.{Image, FileBecomes, IsOverwritten, overwritten}
use Rattle.nb_host.specs.Meaning.{HostModel, Leads, IsDurable}
use Rattle.nb_host.proofs.Callers.{overwritten-at_end, becomes_more, becomes_then, becomes_itself, leads_more, leads_again, leads_after, leads_before, leads_synced, stays_contents}
use Rattle.nb_format.specs.declared.snap_writer.Filling.{Filling}
use Rattle.nb_format.specs.Images.{IsWritten, IsBeingWritten, ChangesWith}
use Rattle.nb_format.specs.ParamsText.{text_without_edge}
use Rattle.nb_format.specs.Snapshot.{IsUnfinished}
use Rattle.nb_format.specs.Writer.{SnapshotPlan, plan_of, StaysUnfinished, Closes, IsFinishedAs}
use Rattle.nb_format.proofs.Callers.{close_leads, changes_becomes}
use Rattle.nb_engine.specs.Files.{params_file, init_file}
use Rattle.nb_engine.proofs.Callers.{leads_from_durable}
use Rattle.nb_cli.specs.OnceAnswer.{BecomesAny}
use Rattle.nb_cli.specs.Make.{body_at, made_bodies, made_params, IsMakeReady, IsMadeFrom, IsPartlyMade, MakeLeads}

-- ---- the lines

-- so many lines, one behind the other
pub joined : (ℕ → List ℕ) → ℕ → List ℕ
joined line zero = []
joined line (suc n) = joined line n ++ line n

pub joined-none : (line : ℕ → List ℕ) → joined line 0 ≡ []
unfolding joined
joined-none line = refl

pub joined-next : (line : ℕ → List ℕ) (n : ℕ) → joined line (n + 1) ≡ joined line n ++ line n
unfolding joined
joined-next line n = ap (joined line) (add-one n)

pub joined-six : (line : ℕ → List ℕ) → joined line 6 ≡ flat_map line (0 ∷ 1 ∷ 2 ∷ 3 ∷ 4 ∷ 5 ∷ [])
unfolding joined
joined-six line = simp (append_assoc, append-nil)

-- one line more at the end of the file
pub text_more : (line : ℕ → List ℕ) (which : ℕ) {at : ℕ} {bytes : List ℕ} {middle new : Image} → at ≡ length (joined line which)
    → bytes ≡ line which → middle.file params_file ≡ joined line which
    → FileBecomes params_file (IsOverwritten at bytes) middle new → new.file params_file ≡ joined line (which + 1)
text_more line which {at = at} {bytes = bytes} {middle = middle} {new = new} ends is holds step =
    let file = middle.file params_file in
    let there : at ≡ length file = ends ∙ ap length (sym holds) in
    step.file ∙ ap (λ (n : ℕ). overwritten n bytes file) there ∙ overwritten-at_end bytes file
    ∙ ap (λ (f : List ℕ). f ++ bytes) holds ∙ ap (λ (b : List ℕ). joined line which ++ b) is ∙ sym (joined-next line which)

pub length_more : (line : ℕ → List ℕ) (which : ℕ) {at : ℕ} {bytes : List ℕ} → at ≡ length (joined line which)
    → bytes ≡ line which → at + length bytes ≡ length (joined line (which + 1))
length_more line which {at = at} {bytes = bytes} ends is =
    let all : length (joined line (which + 1)) ≡ length (joined line which) + length (line which) = ap length (joined-next line which) ∙ length-append (joined line which) (line which) in
    let same : length bytes ≡ length (line which) = ap length is in
    omega arith

-- whatever a write does, the file of the parameters becomes anything
pub params_then : {H : Type 0} {m : HostModel H} {P : List ℕ → List ℕ → Type 0} {old middle new : H}
    → Leads m (FileBecomes params_file BecomesAny) old middle → Leads m (FileBecomes params_file P) middle new
    → Leads m (FileBecomes params_file BecomesAny) old new
params_then first second =
    leads_again (λ a b c one two. becomes_then one two (λ _ _ _ _ _. tt)) first
    (leads_more second (λ start image step. becomes_more step (λ _ _ _. tt)))

-- ---- the bodies

-- the snapshot of so many
abbrev pub made_plan : ℕ → SnapshotPlan
made_plan count = record { file = init_file; count = count; time = 0 }

pub length-made : (seed n : ℕ) → length (made_bodies seed n) ≡ n
length-made seed zero = refl
length-made seed (suc n) =
    length_push (made_bodies seed n) (body_at seed n) ∙ ap (λ (k : ℕ). k + 1) (length-made seed n) ∙ add-one n

pub made-next : (seed n : ℕ) {body : Body} → body ≡ body_at seed n → made_bodies seed n ++ body ∷ [] ≡ made_bodies seed (n + 1)
made-next seed n {body = body} is =
    ap (λ (b : Body). made_bodies seed n ++ b ∷ []) is ∙ sym (ap (made_bodies seed) (add-one n))

-- where a body isn't added
pub leads_not_added : {H : Type 0} {m : HostModel H} {old new : H} (bodies : List Body)
    → Leads m (ChangesWith [] init_file StaysUnfinished) old new → Leads m (FileBecomes init_file (IsWritten bodies 0)) old new
leads_not_added bodies leads =
    leads_more leads (λ start image step. becomes_more (changes_becomes step) (λ before after stays was. inr (stays was)))

-- behind all of them
pub leads_closed : {H : Type 0} {m : HostModel H} (seed added count : ℕ) {filling : Filling} {start old new : H} → added ≡ count
    → IsBeingWritten m [] (made_plan count) filling (made_bodies seed added) start old
    → Leads m (FileBecomes (plan_of filling).file (Closes filling ((m.contents old).file (plan_of filling).file))) old new
    → Leads m (FileBecomes init_file (IsWritten (made_bodies seed count) 0)) start new
leads_closed {m = m} seed added count {start = start} {new = new} all being call =
    let R : ℕ → Type 0 = λ n. Leads m (FileBecomes init_file (IsWritten (made_bodies seed n) 0)) start new in
    subst R all (leads_more (close_leads being call) (λ from image step. changes_becomes step))

-- what reads then, where `close` answers Ok
pub finished_since : {H : Type 0} {m : HostModel H} (seed added count : ℕ) {filling : Filling} {start old new : H} → added ≡ count
    → IsBeingWritten m [] (made_plan count) filling (made_bodies seed added) start old → IsTrue m.tells
    → FileBecomes (plan_of filling).file (IsFinishedAs (made_bodies seed added) (plan_of filling).time) (m.contents old) (m.contents new)
    → FileBecomes init_file (IsFinishedAs (made_bodies seed count) 0) (m.contents start) (m.contents new)
finished_since {m = m} seed added count {start = start} {old = old} {new = new} all being tells wrote =
    let P : SnapshotPlan → Type 0 = λ p. FileBecomes p.file (IsFinishedAs (made_bodies seed added) p.time) (m.contents old) (m.contents new) in
    let R : ℕ → Type 0 = λ n. FileBecomes init_file (IsFinishedAs (made_bodies seed n) 0) (m.contents start) (m.contents new) in
    subst R all
    (becomes_then (changes_becomes (being.since.contents tells)) (subst P being.planned wrote) (λ before between after _ is. is))

-- ---- the two files

apart : init_file ≢ params_file
apart same = absurd (omega arith)

apart_too : params_file ≢ init_file
apart_too same = absurd (omega arith)

empty_unfinished : (bytes : List ℕ) → bytes ≡ [] → IsUnfinished bytes
empty_unfinished bytes none long = absurd (let short : length bytes ≡ 0 = ap length none in omega arith)

params_others : {P : List ℕ → List ℕ → Type 0} {old now : Image} → FileBecomes params_file P old now
    → AgreesOutside (params_file ∷ init_file ∷ []) old now
params_others step =
    record { others = λ number other. step.others number (λ same. other (0, omega arith, sym same)); said = step.said }

both_others : {P Q : List ℕ → List ℕ → Type 0} {old middle now : Image} → FileBecomes params_file P old middle
    → FileBecomes init_file Q middle now → AgreesOutside (params_file ∷ init_file ∷ []) old now
both_others first second = record {
  others = λ number other.
      second.others number (λ same. other (1, omega arith, sym same))
      ∙ first.others number (λ same. other (0, omega arith, sym same));
  said = second.said ∙ first.said;
}

-- the parameters may be in part
params_partly : {seed count : ℕ} {old now : Image} → IsMakeReady old.file → FileBecomes params_file BecomesAny old now
    → IsPartlyMade seed count old now
params_partly can step = record {
  can = can;
  first = inl (step.others init_file apart ∙ can.init);
  whole = inl (empty_unfinished _ (step.others init_file apart ∙ can.init));
  others = params_others step;
}

-- behind them the snapshot is unfinished, or both are whole
bodies_partly : {seed count : ℕ} {old middle now : Image} → IsMakeReady old.file → FileBecomes params_file BecomesAny old middle
    → middle.file params_file ≡ text_without_edge (made_params count)
    → FileBecomes init_file (IsWritten (made_bodies seed count) 0) middle now → IsPartlyMade seed count old now
bodies_partly can first text second = record {
  can = can;
  first = inr (second.others params_file apart_too ∙ text);
  whole = elim (second.file (empty_unfinished _ (first.others init_file apart ∙ can.init))) [
    | inl is ↦ inr (record { params = second.others params_file apart_too ∙ text; init = is })
    | inr still ↦ inl still
  ];
  others = both_others first second;
}

bodies_whole : {seed count : ℕ} {old middle now : Image} → IsMakeReady old.file → FileBecomes params_file BecomesAny old middle
    → middle.file params_file ≡ text_without_edge (made_params count)
    → FileBecomes init_file (IsFinishedAs (made_bodies seed count) 0) middle now → IsMadeFrom seed count old now
bodies_whole can first text second = record {
  can = can;
  made = record { params = second.others params_file apart_too ∙ text; init = second.file };
  others = both_others first second;
}

-- ---- what `make` leaves at each moment

-- The parameters were written into an empty file, perhaps in part.
pub record HasBegun {H : Type 0} (m : HostModel H) (old now : H) : Type 0 where
  pub durable : IsDurable m old
  pub can : IsTrue m.tells → IsMakeReady (m.contents old).file
  pub leads : Leads m (FileBecomes params_file BecomesAny) old now

pub begun_by : {H : Type 0} {m : HostModel H} {old middle new : H} → IsDurable m old → Leads m Stays old middle
    → (IsTrue m.tells → IsMakeReady (m.contents old).file) → Leads m (FileBecomes params_file BecomesAny) middle new
    → HasBegun m old new
begun_by durable stays can wrote = record {
  durable = durable;
  can = can;
  leads = leads_before (λ image. becomes_itself params_file BecomesAny image tt) stays wrote;
}

pub begun_stays : {H : Type 0} {m : HostModel H} {old middle new : H} → HasBegun m old middle → Leads m Stays middle new
    → HasBegun m old new
begun_stays begun stays = record { durable = begun.durable; can = begun.can; leads = leads_after begun.leads stays }

pub leads_begun : {H : Type 0} {m : HostModel H} (seed count : ℕ) {old new : H} → HasBegun m old new
    → Leads m (MakeLeads seed count) old new
leads_begun seed count begun =
    leads_from_durable (FileBecomes params_file BecomesAny) (MakeLeads seed count) begun.durable begun.leads
    (λ tells image step. inr (params_partly (begun.can tells) step))

-- The file of the parameters reads as it was written, also behind a sync.
pub text_read : {H : Type 0} {m : HostModel H} (text : List ℕ) {old first second middle : H} → Leads m Stays old first
    → (IsTrue m.tells → IsMakeReady (m.contents old).file)
    → (IsTrue m.tells → (m.contents first).file params_file ≡ [] → (m.contents second).file params_file ≡ text)
    → Leads m Stays second middle → IsTrue m.tells → (m.contents middle).file params_file ≡ text
text_read text stays can wrote synced tells =
    ap (λ (i : Image). i.file params_file) (stays_contents synced)
    ∙ wrote tells (ap (λ (i : Image). i.file params_file) (stays_contents stays) ∙ (can tells).params)

-- The parameters may be in part, or they are written and the snapshot has begun.
abbrev HasStepped : ℕ → ℕ → Image → Image → Type 0
HasStepped seed count start image = FileBecomes params_file BecomesAny start image
    ⊎ ((between : Image) × FileBecomes params_file BecomesAny start between
    × (between.file params_file ≡ text_without_edge (made_params count))
    × FileBecomes init_file (IsWritten (made_bodies seed count) 0) between image)

pub leads_made : {H : Type 0} {m : HostModel H} (seed count : ℕ) {old middle new : H} → HasBegun m old middle → IsDurable m middle
    → (IsTrue m.tells → (m.contents middle).file params_file ≡ text_without_edge (made_params count))
    → Leads m (FileBecomes init_file (IsWritten (made_bodies seed count) 0)) middle new
    → Leads m (MakeLeads seed count) old new
leads_made {m = m} seed count {old = old} {middle = middle} {new = new} begun durable text wrote =
    let stepped : Leads m (HasStepped seed count) old new =
    leads_synced begun.leads durable wrote (λ start image one. inl one)
    (λ start image tells one two. inr (m.contents middle, one, text tells, two)) in
    leads_from_durable (HasStepped seed count) (MakeLeads seed count) begun.durable stepped
    (λ tells image step. elim step [
      | inl one ↦ inr (params_partly (begun.can tells) one)
      | inr two ↦ inr (bodies_partly (begun.can tells) two.1 two.2 two.3)
    ])

-- what reads where all is written
pub made_from : {H : Type 0} {m : HostModel H} (seed count : ℕ) {old middle new : H} → HasBegun m old middle
    → (IsTrue m.tells → (m.contents middle).file params_file ≡ text_without_edge (made_params count))
    → (IsTrue m.tells → FileBecomes init_file (IsFinishedAs (made_bodies seed count) 0) (m.contents middle) (m.contents new))
    → IsTrue m.tells → IsMadeFrom seed count (m.contents old) (m.contents new)
made_from seed count begun text wrote tells =
    bodies_whole (begun.can tells) (begun.leads.contents tells) (text tells) (wrote tells)

-- The files that a host in memory stores, as the disk model has them.
use Rattle.std.proofs.Common.{◌≡◌, ℕ, zero, suc, ◌+◌, ◌<◌, ◌≤◌, Bool, true, false, ◌&&◌, ◌||◌, ◌==◌, nat_le, nat_lt, if◌then◌else◌, inl, inr, List, [], ◌∷◌, ◌++◌, length, take, drop, reverse, get_or, set, Option, None, refl, sym, ◌∙◌, ap, subst, arith}
use Rattle.std.specs.List.{position_or_len}
use Rattle.std.proofs.lemmas.Bool.{cases_eq, cases_lt, ne_eqb, eq-eqb}
use Rattle.std.proofs.lemmas.Bool.Decides.{eqb_tells}
use Rattle.std.proofs.lemmas.List.{ext_get_or, take_at, reverse-append, length-set, get_or-set_same, get_or-set_other}
use Rattle.std.proofs.lemmas.List.FromFn.{length-map-range_with_len, get_or-map-range_with_len}
use Rattle.std.proofs.lemmas.List.Recursion.{or_push}
use Rattle.nb_host.specs.Disk.{DiskFile, is_unsynced, filled_byte, synced_file, left_file, with_change}
use Rattle.nb_host.specs.Files.{changed_file, ready_file, disk_file_of, found}
use Rattle.nb_host.specs.declared.span.Span.{Span}
use Rattle.nb_host.specs.declared.outcome.Outcome.TheVariants.{Filled}
use Rattle.nb_host.specs.declared.stored_file.StoredFile.{StoredFile}
use Rattle.nb_host.specs.declared.stored_file.Changes.{Changes}

abbrev has : ℕ → Span → Bool
has offset span = nat_le span.from offset && nat_lt offset span.end

or_swap : (a b : Bool) → (a || b) ≡ (b || a)
or_swap true true = refl
or_swap true false = refl
or_swap false true = refl
or_swap false false = refl

-- the order of the ranges doesn't matter
pub unsynced_reversed : (spans : List Span) (offset : ℕ)
    → is_unsynced (reverse spans) offset ≡ is_unsynced spans offset
unsynced_reversed [] offset = refl
unsynced_reversed (span ∷ spans) offset =
    ap (λ (all : List Span). is_unsynced all offset) (reverse-append (span ∷ []) spans)
    ∙ or_push (λ (all : List Span). is_unsynced all offset) (has offset) refl (λ first rest. refl) (reverse spans) span
    ∙ ap (λ (b : Bool). b || has offset span) (unsynced_reversed spans offset)
    ∙ or_swap (is_unsynced spans offset) (has offset span)

-- a file that wasn't changed since it was synced is filled already
pub filled_synced : (filler : ℕ) (bytes : List ℕ) → left_file (Filled filler) (synced_file bytes) ≡ bytes
filled_synced filler bytes =
    let file = synced_file bytes in
    let counts = length-map-range_with_len (filled_byte filler file) 0 (length bytes) in
    ext_get_or 0 (left_file (Filled filler) file) bytes counts
    (λ offset within.
    get_or-map-range_with_len (filled_byte filler file) 0 (length bytes) offset offset 0 (omega (arith, counts))
    (omega arith))

pub ready_unchanged : (filler : ℕ) (bytes : List ℕ) (changes : Option Changes) → changes ≡ None
    → ready_file bytes changes ≡ left_file (Filled filler) (changed_file bytes changes)
ready_unchanged filler bytes changes none =
    subst (λ (c : Option Changes). ready_file bytes c ≡ left_file (Filled filler) (changed_file bytes c)) (sym none)
    (sym (filled_synced filler bytes))

-- Looking up a file by its number.

abbrev pub is_file : ℕ → StoredFile → Bool
is_file number stored = stored.number == number

-- a file without bytes that is added changes nothing
pub found-added : (files : List StoredFile) (added : StoredFile) (number : ℕ)
    → disk_file_of added ≡ synced_file [] → found disk_file_of (files ++ added ∷ []) number ≡ found disk_file_of files number
found-added [] added number empty =
    elim (added.number == number) as (λ (b : Bool). (if b then disk_file_of added else synced_file []) ≡ synced_file [])
    [ true ↦ empty | false ↦ refl ]
found-added (stored ∷ others) added number empty =
    elim (stored.number == number) as (λ (b : Bool). (if b then disk_file_of stored else found disk_file_of (others ++ added ∷ []) number) ≡ (if b then disk_file_of stored else found disk_file_of others number))
    [ true ↦ refl | false ↦ found-added others added number empty ]

first_here : (stored : StoredFile) (others : List StoredFile) (number : ℕ) → is_file number stored ≡ true
    → position_or_len (is_file number) (stored ∷ others) ≡ 0
first_here stored others number same = rw same refl

first_later : (stored : StoredFile) (others : List StoredFile) (number : ℕ) → is_file number stored ≡ false
    → position_or_len (is_file number) (stored ∷ others) ≡ suc (position_or_len (is_file number) others)
first_later stored others number apart = rw apart (omega arith)

found_here : (f : StoredFile → DiskFile) (stored : StoredFile) (others : List StoredFile) (number : ℕ)
    → is_file number stored ≡ true → found f (stored ∷ others) number ≡ f stored
found_here f stored others number same = rw same refl

found_later : (f : StoredFile → DiskFile) (stored : StoredFile) (others : List StoredFile) (number : ℕ)
    → is_file number stored ≡ false → found f (stored ∷ others) number ≡ found f others number
found_later f stored others number apart = rw apart refl

-- where none has the number
pub found-absent : (files : List StoredFile) (number : ℕ)
    → length files ≤ position_or_len (is_file number) files → found disk_file_of files number ≡ synced_file []
found-absent [] number absent = refl
found-absent (stored ∷ others) number absent =
    elim (eqb_tells stored.number number) [
      | inl same ↦
          let none = first_here stored others number same.0 in
          absurd (omega (arith, none, absent))
      | inr apart ↦
          let later = first_later stored others number apart.0 in
          found_later disk_file_of stored others number apart.0
          ∙ found-absent others number (omega (arith, later, absent))
    ]

-- where one has it
pub found-present : (files : List StoredFile) (number : ℕ) (other : StoredFile)
    → position_or_len (is_file number) files < length files
    → disk_file_of (get_or files (position_or_len (is_file number) files) other) ≡ found disk_file_of files number
found-present [] number other within = absurd (omega arith)
found-present (stored ∷ others) number other within =
    let all = stored ∷ others in
    elim (eqb_tells stored.number number) [
      | inl same ↦
          ap (λ (n : ℕ). disk_file_of (get_or all n other)) (first_here stored others number same.0)
          ∙ sym (found_here disk_file_of stored others number same.0)
      | inr apart ↦
          let later = first_later stored others number apart.0 in
          ap (λ (n : ℕ). disk_file_of (get_or all n other)) later
          ∙ found-present others number other (omega (arith, later, within))
          ∙ sym (found_later disk_file_of stored others number apart.0)
    ]

pub number_present : (files : List StoredFile) (number : ℕ) (other : StoredFile)
    → position_or_len (is_file number) files < length files
    → (get_or files (position_or_len (is_file number) files) other).number ≡ number
number_present [] number other within = absurd (omega arith)
number_present (stored ∷ others) number other within =
    let all = stored ∷ others in
    elim (eqb_tells stored.number number) [
      | inl same ↦
          ap (λ (n : ℕ). (get_or all n other).number) (first_here stored others number same.0) ∙ same.1
      | inr apart ↦
          let later = first_later stored others number apart.0 in
          ap (λ (n : ℕ). (get_or all n other).number) later
          ∙ number_present others number other (omega (arith, later, within))
    ]

-- where another is put in the place of the one that has it
pub found-set : (files : List StoredFile) (number : ℕ) (now : StoredFile) (other : ℕ)
    → position_or_len (is_file number) files < length files → now.number ≡ number
    → found disk_file_of (set files (position_or_len (is_file number) files) now) other
    ≡ (if other == number then disk_file_of now else found disk_file_of files other)
found-set [] number now other within same = absurd (omega arith)
found-set (stored ∷ others) number now other within same =
    let all = stored ∷ others in
    elim (eqb_tells stored.number number) [
      | inl here ↦
          ap (λ (n : ℕ). found disk_file_of (set all n now) other) (first_here stored others number here.0)
          ∙ (elim (eqb_tells other number) [
            | inl is ↦
                let at_now = eq-eqb now.number other (same ∙ sym is.1) in
                found_here disk_file_of now others other at_now ∙ rw is.0 refl
            | inr is ↦
                let not_now = ne_eqb now.number other (λ (e : now.number ≡ other). is.1 (sym e ∙ same)) in
                let not_old = ne_eqb stored.number other (λ (e : stored.number ≡ other). is.1 (sym e ∙ here.1)) in
                found_later disk_file_of now others other not_now ∙ sym (found_later disk_file_of stored others other not_old)
                ∙ rw is.0 refl
          ])
      | inr apart ↦
          let later = first_later stored others number apart.0 in
          let rest = set others (position_or_len (is_file number) others) now in
          let deeper = found-set others number now other (omega (arith, later, within)) same in
          ap (λ (n : ℕ). found disk_file_of (set all n now) other) later
          ∙ (elim (eqb_tells stored.number other) [
            | inl is ↦
                let not_other = ne_eqb other number (λ (e : other ≡ number). apart.1 (is.1 ∙ e)) in
                found_here disk_file_of stored rest other is.0 ∙ sym (found_here disk_file_of stored others other is.0) ∙ rw not_other refl
            | inr is ↦
                found_later disk_file_of stored rest other is.0 ∙ deeper
                ∙ ap (λ (f : DiskFile). if other == number then disk_file_of now else f) (sym (found_later disk_file_of stored others other is.0))
          ])
    ]

-- where each file becomes what another is made of
pub found-each : (f g : StoredFile → DiskFile) (old new : List StoredFile) → length new ≡ length old
    → ((k : ℕ) (other : StoredFile) → k < length old
    → ((get_or new k other).number ≡ (get_or old k other).number) × (f (get_or new k other) ≡ g (get_or old k other)))
    → (number : ℕ) → found f new number ≡ found g old number
found-each f g [] [] counts each number = refl
found-each f g [] (n ∷ new) counts each number = absurd (omega (arith, counts))
found-each f g (o ∷ old) [] counts each number = absurd (omega (arith, counts))
found-each f g (o ∷ old) (n ∷ new) counts each number =
    let first = each 0 o (omega arith) in
    let rest = found-each f g old new (omega (arith, counts))
    (λ k other within. each (suc k) other (omega arith)) number in
    elim (eqb_tells o.number number) [
      | inl is ↦
          let now = eq-eqb n.number number (first.0 ∙ is.1) in
          found_here f n new number now ∙ first.1 ∙ sym (found_here g o old number is.0)
      | inr is ↦
          let not_now = ne_eqb n.number number (λ (e : n.number ≡ number). is.1 (sym first.0 ∙ e)) in
          found_later f n new number not_now ∙ rest ∙ sym (found_later g o old number is.0)
    ]

-- a change of each file is one of the file that is found, where it leaves one without bytes as it is
pub found-change : (change : DiskFile → DiskFile) → change (synced_file []) ≡ synced_file []
    → (files : List StoredFile) (number : ℕ)
    → found (λ stored. change (disk_file_of stored)) files number ≡ change (found disk_file_of files number)
found-change change empty [] number = sym empty
found-change change empty (stored ∷ others) number =
    elim (stored.number == number) as (λ (b : Bool). (if b then change (disk_file_of stored) else found (λ s. change (disk_file_of s)) others number) ≡ change (if b then disk_file_of stored else found disk_file_of others number))
    [ true ↦ refl | false ↦ found-change change empty others number ]

-- Going over the files, the first of which so many are done.
pub record IsDone (P : StoredFile → StoredFile → Type 0) (old new : List StoredFile) (count : ℕ) : Type 0 where
  pub counts : length new ≡ length old
  pub done : (k : ℕ) (other : StoredFile) → k < count → k < length old → P (get_or old k other) (get_or new k other)
  pub rest : (k : ℕ) (other : StoredFile) → count ≤ k → get_or new k other ≡ get_or old k other

pub none_done : (P : StoredFile → StoredFile → Type 0) (files : List StoredFile) → IsDone P files files 0
none_done P files =
    record { counts = refl; done = λ k other none _. absurd (omega arith); rest = λ k other _. refl }

pub one_more_done : (P : StoredFile → StoredFile → Type 0) (old new : List StoredFile) (count : ℕ) (now : StoredFile)
    → IsDone P old new count → count < length old → ((other : StoredFile) → P (get_or new count other) now)
    → IsDone P old (set new count now) (count + 1)
one_more_done P old new count now is within one = record {
  counts = length-set new count now ∙ is.counts;
  done = λ k other below inside.
      elim (cases_eq k count) [
        | inl same ↦
            let here : get_or (set new count now) count other ≡ now = get_or-set_same new count now other (omega (arith, is.counts)) in
            subst (λ (n : ℕ). P (get_or old n other) (get_or (set new count now) n other)) (sym same)
            (subst (λ (s : StoredFile). P (get_or old count other) s) (sym here)
            (subst (λ (s : StoredFile). P s now) (is.rest count other (omega arith)) (one other)))
        | inr apart ↦
            subst (λ (s : StoredFile). P (get_or old k other) s)
            (sym (get_or-set_other new count k now other apart))
            (is.done k other (omega arith) inside)
      ];
  rest = λ k other past.
      get_or-set_other new count k now other (λ (same : k ≡ count). omega arith) ∙ is.rest k other (omega arith);
}

-- the first that has the number is the one that is found
pub first_is_position : (files : List StoredFile) (number index : ℕ) (file : StoredFile)
    → ((k : ℕ) (other : StoredFile) → k < index → is_file number (get_or files k other) ≡ false)
    → index < length files → is_file number (get_or files index file) ≡ true
    → index ≡ position_or_len (is_file number) files
first_is_position [] number index file before within here = absurd (omega arith)
first_is_position (stored ∷ others) number zero file before within here = sym (first_here stored others number here)
first_is_position (stored ∷ others) number (suc index) file before within here =
    ap suc (first_is_position others number index file (λ k other below. before (suc k) other (omega arith))
    (omega arith) here)
    ∙ sym (first_later stored others number (before 0 stored (omega arith)))

pub none_is_position : (files : List StoredFile) (number : ℕ)
    → ((k : ℕ) (other : StoredFile) → k < length files → is_file number (get_or files k other) ≡ false)
    → length files ≡ position_or_len (is_file number) files
none_is_position [] number before = refl
none_is_position (stored ∷ others) number before =
    ap suc (none_is_position others number (λ k other below. before (suc k) other (omega arith)))
    ∙ sym (first_later stored others number (before 0 stored (omega arith)))

-- one of the stored files is put back changed
pub found-put_back : (files old : List StoredFile) (number index : ℕ) (before now : StoredFile)
    (change : DiskFile → DiskFile) → index ≡ position_or_len (is_file number) files → index < length files
    → now.number ≡ before.number → before ≡ get_or files index before
    → disk_file_of now ≡ change (disk_file_of before)
    → ((n : ℕ) → found disk_file_of files n ≡ found disk_file_of old n)
    → (n : ℕ) → found disk_file_of (set files index now) n ≡ with_change number change (found disk_file_of old) n
found-put_back files old number index before now change at within same is changed kept = λ n.
    let first = position_or_len (is_file number) files in
    let inside : first < length files = omega (arith, at, within) in
    let here : get_or files first before ≡ before = ap (λ (i : ℕ). get_or files i before) (sym at) ∙ sym is in
    let named : now.number ≡ number =
    same ∙ ap (λ (s : StoredFile). s.number) (sym here) ∙ number_present files number before inside
    in
    let made : disk_file_of now ≡ change (found disk_file_of old number) =
    changed ∙ ap (λ (s : StoredFile). change (disk_file_of s)) (sym here)
    ∙ ap change (found-present files number before inside ∙ kept number)
    in
    ap (λ (i : ℕ). found disk_file_of (set files i now) n) at ∙ found-set files number now n inside named
    ∙ (elim (eqb_tells n number) [
      | inl here ↦
          let to : change (found disk_file_of old number) ≡ change (found disk_file_of old n) =
          ap (λ (m : ℕ). change (found disk_file_of old m)) (sym here.1)
          in
          rw here.0 (made ∙ to)
      | inr apart ↦ rw apart.0 (kept n)
    ])

-- one of them is put back as it was
pub found-put_same : (files old : List StoredFile) (number index : ℕ) (before now : StoredFile)
    → index ≡ position_or_len (is_file number) files → index < length files
    → now.number ≡ before.number → before ≡ get_or files index before → disk_file_of now ≡ disk_file_of before
    → ((n : ℕ) → found disk_file_of files n ≡ found disk_file_of old n)
    → (n : ℕ) → found disk_file_of (set files index now) n ≡ found disk_file_of old n
found-put_same files old number index before now at within same is changed kept = λ n.
    found-put_back files old number index before now (λ file. file) at within same is changed kept n
    ∙ (elim (n == number) as (λ (b : Bool). (if b then found disk_file_of old n else found disk_file_of old n) ≡ found disk_file_of old n)
    [ true ↦ refl | false ↦ refl ])

pub done_weaken : (P Q : StoredFile → StoredFile → Type 0) (old new : List StoredFile) (count : ℕ)
    → ((o n : StoredFile) → P o n → Q o n) → IsDone P old new count → IsDone Q old new count
done_weaken P Q old new count more is = record {
  counts = is.counts;
  done = λ k other below inside. more (get_or old k other) (get_or new k other) (is.done k other below inside);
  rest = is.rest;
}

-- all of them are done
pub found-done : (P : StoredFile → StoredFile → Type 0) (f g : StoredFile → DiskFile) (old new : List StoredFile)
    (count : ℕ) → ((o n : StoredFile) → P o n → (n.number ≡ o.number) × (f n ≡ g o)) → IsDone P old new count
    → length old ≤ count → (number : ℕ) → found f new number ≡ found g old number
found-done P f g old new count made is all =
    found-each f g old new is.counts
    (λ k other inside. made (get_or old k other) (get_or new k other) (is.done k other (omega arith) inside))

-- some of them are done, which leaves each file as it was
pub found-kept : (P : StoredFile → StoredFile → Type 0) (old new : List StoredFile) (count : ℕ)
    → ((o n : StoredFile) → P o n → (n.number ≡ o.number) × (disk_file_of n ≡ disk_file_of o)) → IsDone P old new count
    → (number : ℕ) → found disk_file_of new number ≡ found disk_file_of old number
found-kept P old new count made is =
    found-each disk_file_of disk_file_of old new is.counts
    (λ k other inside.
    elim (cases_lt k count) [
      | inl below ↦ made (get_or old k other) (get_or new k other) (is.done k other below inside)
      | inr past ↦
          let same = is.rest k other past in
          (ap (λ (s : StoredFile). s.number) same, ap disk_file_of same)
    ])

-- a vector whose items were replaced from its beginning to its end
pub items_back : (len : ℕ) (old new : List StoredFile) → len ≡ length old → length new ≡ length old
    → take len (new ++ drop (length new) old) ≡ new
items_back len old new is counts = take_at new (drop (length new) old) len (counts ∙ sym is)

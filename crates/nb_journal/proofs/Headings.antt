-- What page 0 tells.
use Rattle.std.proofs.Common.{◌≡◌, ℕ, ◌+◌, ◌^◌, ◌<◌, inl, inr, List, length, take, drop, slice_index, refl, sym, ap, subst, ◌∙◌, arith}
use Rattle.std.specs.Int.{w64, to_le_bytes}
use Rattle.std.proofs.lemmas.List.{ext_get_or, get_or-take, get_or_append_left}
use Rattle.nb_host.specs.Image.{readable}
use Rattle.nb_host.proofs.Callers.{length-readable, slice_index-readable}
use Rattle.nb_model.specs.declared.edge.Edge.{Edge}
use Rattle.nb_model.specs.declared.edge.Edge.TheVariants.{Open, Wrap}
use Rattle.nb_journal.specs.declared.form.Heading.{Heading}
use Rattle.nb_journal.specs.Counters.{counters_of, log_under, heading_of}
use Rattle.nb_journal.specs.Form.{Log, IsLawful, header, journal_bytes, edge_code}
use Rattle.nb_journal.specs.Offsets.{BeginsWith}
use Rattle.nb_journal.specs.Reading.{IsReadTo}
use Rattle.nb_journal.proofs.Spelled.{same_u64}
use Rattle.nb_journal.proofs.Texts.{length-header, length-journal_bytes}

-- a number that was read at an offset of the page
pub record StandsAt (page : List ℕ) (at n : ℕ) : Type 0 where
  pub small : n < 2 ^ 64
  pub bytes : take 8 (drop at page) ≡ to_le_bytes w64 n

-- the fields of a header
pub record HasNumbers (page : List ℕ) (log : Log) : Type 0 where
  pub digit : slice_index page 7 ≡ 48 + log.version
  pub grav : take 8 (drop 8 page) ≡ to_le_bytes w64 log.params.grav
  pub theta_num : take 8 (drop 16 page) ≡ to_le_bytes w64 log.params.theta_num
  pub theta_den : take 8 (drop 24 page) ≡ to_le_bytes w64 log.params.theta_den
  pub soft : take 8 (drop 32 page) ≡ to_le_bytes w64 log.params.soft
  pub leaf : take 8 (drop 40 page) ≡ to_le_bytes w64 log.params.leaf
  pub every : take 8 (drop 48 page) ≡ to_le_bytes w64 log.params.every
  pub count : take 8 (drop 56 page) ≡ to_le_bytes w64 log.count
  pub time : take 8 (drop 64 page) ≡ to_le_bytes w64 log.begin_time
  pub gone : take 8 (drop 72 page) ≡ to_le_bytes w64 log.begin_gone
  pub edge : take 8 (drop 80 page) ≡ to_le_bytes w64 (edge_code log.params.edge)

pub header_has : (log : Log) → HasNumbers (header 83 log) log
unfolding header
header_has log = record {
  digit = refl;
  grav = refl;
  theta_num = refl;
  theta_den = refl;
  soft = refl;
  leaf = refl;
  every = refl;
  count = refl;
  time = refl;
  gone = refl;
  edge = refl;
}

number_is : {page : List ℕ} {at n m : ℕ} → StandsAt page at n → m < 2 ^ 64 → take 8 (drop at page) ≡ to_le_bytes w64 m → n ≡ m
number_is {n = n} {m = m} stands small has = same_u64 n m stands.small small (sym stands.bytes ∙ has)

pub edge_small : (edge : Edge) → edge_code edge < 2 ^ 64
edge_small Open = omega arith
edge_small Wrap = omega arith

edge_is : (edge read : Edge) (number : ℕ) → number ≡ edge_code edge → (number ≡ 0 → read ≡ Open) → (number ≡ 1 → read ≡ Wrap) → read ≡ edge
edge_is Open read number is open' wrap = open' is
edge_is Wrap read number is open' wrap = wrap is

version_is : (log : Log) (version digit : ℕ) → IsLawful log → digit ≡ 48 + log.version → (digit ≡ 49 → version ≡ 1)
    → (digit ≡ 50 → version ≡ 2) → version ≡ log.version
version_is log version digit lawful is first second =
    elim lawful.version [
      | inl one ↦ first (omega (arith, is, one.0)) ∙ sym one.0
      | inr two ↦ second (omega (arith, is, two)) ∙ sym two
    ]

-- The numbers that were read are those of the log whose header the page is.
pub heading_read : (log : Log) (page : List ℕ) {version grav theta_num theta_den soft leaf every number count time gone : ℕ} {edge : Edge}
    → IsLawful log → page ≡ header 83 log → (slice_index page 7 ≡ 49 → version ≡ 1) → (slice_index page 7 ≡ 50 → version ≡ 2)
    → StandsAt page 8 grav → StandsAt page 16 theta_num → StandsAt page 24 theta_den → StandsAt page 32 soft
    → StandsAt page 40 leaf → StandsAt page 48 every → StandsAt page 80 number → (number ≡ 0 → edge ≡ Open)
    → (number ≡ 1 → edge ≡ Wrap) → StandsAt page 56 count → StandsAt page 64 time → StandsAt page 72 gone
    → record {
      version = version;
      params = record {
        grav = grav;
        theta_num = theta_num;
        theta_den = theta_den;
        soft = soft;
        leaf = leaf;
        every = every;
        edge = edge;
      };
      count = count;
      time = time;
      gone = gone;
    } ≡ heading_of log
heading_read log page {version = version} {edge = edge} lawful is first second grav theta_num theta_den soft leaf every number open' wrap count time gone =
    let has : HasNumbers page log = subst (λ (p : List ℕ). HasNumbers p log) (sym is) (header_has log) in
    let range = lawful.params in
    let e0 = version_is log version (slice_index page 7) lawful has.digit first second in
    let e1 = number_is grav (omega (arith, range.grav)) has.grav in
    let e2 = number_is theta_num (omega (arith, range.theta_num)) has.theta_num in
    let e3 = number_is theta_den (omega (arith, range.theta_den)) has.theta_den in
    let e4 = number_is soft (omega (arith, range.soft)) has.soft in
    let e5 = number_is leaf (omega (arith, range.leaf)) has.leaf in
    let e6 = number_is every (omega (arith, range.every)) has.every in
    let e7 = edge_is log.params.edge edge _ (number_is number (edge_small log.params.edge) has.edge) open' wrap in
    let e8 = number_is count (omega (arith, lawful.count)) has.count in
    let e9 = number_is time lawful.time has.time in
    let e10 = number_is gone (omega (arith, lawful.count, lawful.gone)) has.gone in
    rw (e0, e1, e2, e3, e4, e5, e6, e7, e8, e9, e10) refl

-- a header is that of its log's heading
pub header_under : (log : Log) → header 83 log ≡ header 83 (log_under (heading_of log))
unfolding header
header_under log = refl

-- Page 0, read from the file.

pub page_whole : (file later : List ℕ) {len got : ℕ} → later ≡ file → len ≡ length file → 4096 < len
    → got ≡ length (readable 0 4096 later) → got ≡ 4096
page_whole file later same long more got =
    omega (arith, ap length same, long, more, got, length-readable 0 4096 later)

pub page_bytes : (file later page : List ℕ) {got : ℕ} → later ≡ file → got ≡ 4096 → take got page ≡ readable 0 4096 later
    → (i : ℕ) → i < 4096 → slice_index page i ≡ slice_index file i
page_bytes file later page {got = got} same whole read i within =
    sym (get_or-take got page i 0 (omega (arith, whole)))
    ∙ ap (λ (w : List ℕ). slice_index w i) read
    ∙ slice_index-readable 0 4096 i later within
    ∙ ap (λ (w : List ℕ). slice_index w (0 + i)) same
    ∙ ap (λ (k : ℕ). slice_index file k) (omega arith)

pub text_header : (log : Log) (i : ℕ) → i < 4096 → slice_index (journal_bytes log) i ≡ slice_index (header 83 log) i
text_header log i within = get_or_append_left (header 83 log) _ 0 i (omega (arith, length-header 83 log))

-- a page whose file begins with the text of a log is its header
pub page_header : (log : Log) (file page : List ℕ) → length page ≡ 4096 → ((i : ℕ) → i < 4096 → slice_index page i ≡ slice_index file i)
    → BeginsWith (journal_bytes log) file → page ≡ header 83 log
page_header log file page long same begins =
    ext_get_or 0 page (header 83 log) (long ∙ sym (length-header 83 log))
    (λ i within.
    let low : i < 4096 = omega arith in
    same i low ∙ begins.each i (omega (arith, length-journal_bytes log)) ∙ text_header log i low)

-- and the other way round, where the log has no entries
pub page_begins : (heading : Heading) (file page : List ℕ) → 4096 < length file → ((i : ℕ) → i < 4096 → slice_index page i ≡ slice_index file i)
    → IsLawful (log_under heading) → page ≡ header 83 (log_under heading) → IsReadTo file (counters_of (log_under heading))
page_begins heading file page long same lawful is =
    let log = log_under heading in
    let short : length (journal_bytes log) ≡ 4096 = length-journal_bytes log in
    record {
      log = log;
      lawful = lawful;
      begins = record {
        whole = omega arith;
        each = λ i within.
            let low : i < 4096 = omega arith in
            sym (same i low) ∙ ap (λ (w : List ℕ). slice_index w i) is ∙ sym (text_header log i low);
      };
      answers = refl;
    }

edge_open : (edge : Edge) → edge_code edge ≡ 0 → edge ≡ Open
edge_open Open is = refl
edge_open Wrap is = absurd (omega arith)

edge_wrap : (edge : Edge) → edge_code edge ≡ 1 → edge ≡ Wrap
edge_wrap Open is = absurd (omega arith)
edge_wrap Wrap is = refl

-- One header is that of one heading.
pub same_heading : (a b : Log) → IsLawful a → IsLawful b → header 83 a ≡ header 83 b → heading_of b ≡ heading_of a
same_heading a b lawful_a lawful_b same =
    let has : HasNumbers (header 83 a) b = subst (λ (p : List ℕ). HasNumbers p b) (sym same) (header_has b) in
    let range = lawful_b.params in
    heading_read a (header 83 a) lawful_a refl
    (λ digit. omega (arith, digit, has.digit))
    (λ digit. omega (arith, digit, has.digit))
    (record { small = omega (arith, range.grav); bytes = has.grav })
    (record { small = omega (arith, range.theta_num); bytes = has.theta_num })
    (record { small = omega (arith, range.theta_den); bytes = has.theta_den })
    (record { small = omega (arith, range.soft); bytes = has.soft })
    (record { small = omega (arith, range.leaf); bytes = has.leaf })
    (record { small = omega (arith, range.every); bytes = has.every })
    (record { small = edge_small b.params.edge; bytes = has.edge })
    (edge_open b.params.edge) (edge_wrap b.params.edge)
    (record { small = omega (arith, lawful_b.count); bytes = has.count })
    (record { small = lawful_b.time; bytes = has.time })
    (record { small = omega (arith, lawful_b.count, lawful_b.gone); bytes = has.gone })

use Rattle.std.proofs.Common.{◌≡◌, Err, Contains, [], ◌∷◌, rules, arith, sym, ap, subst, ◌∙◌}
use Rattle.std.specs.Prelude.{◌≢◌, All}
use Rattle.std.proofs.lemmas.Grind.{common_steps}
use Rattle.nb_host.specs.declared.page_name.PageName.{PageName}
use Rattle.nb_cache.specs.declared.cache_error.CacheError.{CacheError}
use Rattle.nb_cache.specs.declared.cache_error.CacheError.TheVariants as cache
use Rattle.nb_cache.specs.View.{seen, IsWhole}
use Rattle.nb_record.specs.Pages.{IsCellPage}
use Rattle.nb_record.specs.Records.{cells_of}
use Rattle.nb_cell.specs.declared.cell_error.CellError.TheVariants.{Damaged}
use Rattle.nb_cell.specs.Errors.{of_cache}
use Rattle.nb_cell.proofs.Calls.{lent_here, passed_past, passed_next}
use Rattle.nb_cell.proofs.Looks.{shown_there, looks_past, gone_passed, next_passed}
use Rattle.nb_cell.proofs.table.CellTable.next_page.Goals as goal

short_page : (error : CacheError) (name : PageName) → of_cache error ≡ Damaged name → error ≡ cache.Short name
short_page cache.Fault name is = cc
short_page cache.NoMemory name is = cc
short_page (cache.Short short) name is = cc

only_one : (name other : PageName) → Contains (name ∷ []) other → other ≡ name
only_one name other has = search (rules, common_steps)

pub returns-in_err-fetch-clause-damaged : goal.returns-in_err-fetch-clause-damaged
returns-in_err-fetch-clause-damaged g c = λ name is tells leads.
    let error = c.in_err-fetch.field-0.0 in
    let handed_on : c.from_residual.result ≡ Err (of_cache error) = search rules in
    let short : error ≡ cache.Short name = short_page error name (cc) in
    let was = c.in_err-fetch.was ∙ ap Err short in
    let same = only_one c.name-name.result name (c.fetch.ensures.named name was) ∙ c.name-name.ensures in
    (c.fetch.ensures.short name was tells).short
    (subst (IsWhole c.args.cache.now (g.H.Host.meaning.contents c.args.host.now)) (sym same) leads.whole)

pub returns-in-Gone-clause-past : goal.returns-in-Gone-clause-past
returns-in-Gone-clause-past g c = λ tells.
    let bytes = c.unwrap-bytes.result.now in
    let within = c.requires.within in
    passed_past (seen g.H.Host.meaning c.args.cache.now c.args.host.now c.args.self.now.file) within
    (lent_here c.args.self.now.file c.args.page c.name-name.result c.name-name.ensures c.fetch.ensures.ran.writes
    (rw c.unwrap-bytes.ensures at c.lent.ensures.view) tells)
    (subst (IsWhole c.args.cache.now (g.H.Host.meaning.contents c.args.host.now)) c.name-name.ensures (c.in_ok-fetch.ensures.whole tells).0)
    (gone_passed c.args.key c.args.page bytes _ (shown_there c.args.page bytes) c.in-Gone.ensures.look) (omega arith)

pub returns-in-Gone-clause-next : goal.returns-in-Gone-clause-next
returns-in-Gone-clause-next g c = λ tells.
    let bytes = c.unwrap-bytes.result.now in
    passed_next (seen g.H.Host.meaning c.args.cache.now c.args.host.now c.args.self.now.file)
    (lent_here c.args.self.now.file c.args.page c.name-name.result c.name-name.ensures c.fetch.ensures.ran.writes
    (rw c.unwrap-bytes.ensures at c.lent.ensures.view) tells)
    (gone_passed c.args.key c.args.page bytes _ (shown_there c.args.page bytes) c.in-Gone.ensures.look)

pub returns-else-next-self-clause-past : goal.returns-else-next-self-clause-past
returns-else-next-self-clause-past g c = λ tells.
    let bytes = c.unwrap-bytes.result.now in
    passed_past (seen g.H.Host.meaning c.args.cache.now c.args.host.now c.args.self.now.file) c.requires.within
    (lent_here c.args.self.now.file c.args.page c.name-name.result c.name-name.ensures c.fetch.ensures.ran.writes
    (rw c.unwrap-bytes.ensures at c.lent.ensures.view) tells)
    (subst (IsWhole c.args.cache.now (g.H.Host.meaning.contents c.args.host.now)) c.name-name.ensures (c.in_ok-fetch.ensures.whole tells).0)
    (next_passed c.args.key c.args.page c.in-Next.next bytes _ (shown_there c.args.page bytes) c.in-Next.ensures.look) (omega arith)

pub returns-else-next-self-clause-next : goal.returns-else-next-self-clause-next
returns-else-next-self-clause-next g c = λ tells.
    let bytes = c.unwrap-bytes.result.now in
    passed_next (seen g.H.Host.meaning c.args.cache.now c.args.host.now c.args.self.now.file)
    (lent_here c.args.self.now.file c.args.page c.name-name.result c.name-name.ensures c.fetch.ensures.ran.writes
    (rw c.unwrap-bytes.ensures at c.lent.ensures.view) tells)
    (next_passed c.args.key c.args.page c.in-Next.next bytes _ (shown_there c.args.page bytes) c.in-Next.ensures.look)

pub returns-then-next-self-clause-damaged : goal.returns-then-next-self-clause-damaged
returns-then-next-self-clause-damaged g c = λ _ _ tells leads.
    let bytes = c.unwrap-bytes.result.now in
    let next = passed_next (seen g.H.Host.meaning c.args.cache.now c.args.host.now c.args.self.now.file)
    (lent_here c.args.self.now.file c.args.page c.name-name.result c.name-name.ensures c.fetch.ensures.ran.writes
    (rw c.unwrap-bytes.ensures at c.lent.ensures.view) tells)
    (next_passed c.args.key c.args.page c.in-Next.next bytes _ (shown_there c.args.page bytes) c.in-Next.ensures.look) in
    let within = leads.next in
    omega (arith, next, within)

pub returns-in_default-clause-damaged : goal.returns-in_default-clause-damaged
returns-in_default-clause-damaged g c = λ _ _ tells leads.
    let bytes = c.unwrap-bytes.result.now in
    let is = lent_here c.args.self.now.file c.args.page c.name-name.result c.name-name.ensures c.fetch.ensures.ran.writes
    (rw c.unwrap-bytes.ensures at c.lent.ensures.view) tells in
    looks_past c.args.key c.args.page bytes _ c.look.result (shown_there c.args.page bytes) c.look.ensures.look
    (subst (IsCellPage c.args.page) (sym is) leads.form) (subst (λ l. All (λ e. e.key ≢ c.args.key) (cells_of l)) (sym is) leads.lacks)
    c.in_default.not-Gone c.in_default.not-Next

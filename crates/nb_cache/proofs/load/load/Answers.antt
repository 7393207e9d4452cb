use Rattle.std.proofs.Common.{◌≡◌, ◌∙◌, ◌++◌, ◌≤◌, ℕ, List, length, take, drop, ap, sym, arith}
use Rattle.std.proofs.lemmas.List.{take_at, take_all}
use Rattle.nb_host.specs.Image.{readable}
use Rattle.nb_host.specs.Page.{page_of, page_start}
use Rattle.nb_host.specs.declared.page_name.TheConstants.{PAGE_SIZE}
use Rattle.nb_cache.proofs.load.load.Goals as goal

-- a frame that was filled to its end
filled : (found page count : ℕ) (before into rest file : List ℕ) → length before ≡ PAGE_SIZE → length into ≡ length before
    → count ≡ PAGE_SIZE → found ≤ length before → PAGE_SIZE ≤ found
    → take found into ≡ readable (page_start page) (length before) file → take count (into ++ rest) ≡ page_of file page
filled found page count before into rest file long same full most least bytes =
    let all : found ≡ length before = omega (arith, long, most, least) in
    take_at into rest count (same ∙ long ∙ sym full)
    ∙ sym (take_all found into (omega (arith, all, same))) ∙ bytes
    ∙ ap (λ n. readable (page_start page) n file) long

pub returns-clause-page : goal.returns-clause-page
returns-clause-page g c = λ told.
    let long : length c.deref_mut.result.now ≡ PAGE_SIZE =
    ap (λ l. length l) c.deref_mut.ensures.value ∙ c.args.frame.now.whole in
    filled c.in_ok-found.found c.args.name.page c.args.frame.now.bytes.len c.deref_mut.result.now c.read_at.new.into
    (drop (length c.read_at.new.into) c.args.frame.now.bytes.items)
    ((g.H.Host.meaning.contents c.args.host.now).file c.args.name.file) long c.read_at.auto.into
    (sym c.deref_mut.ensures.len ∙ long) c.in_ok-found.ensures.count c.if-found-lt-PAGE_SIZE.false (c.in_ok-found.ensures.bytes told)

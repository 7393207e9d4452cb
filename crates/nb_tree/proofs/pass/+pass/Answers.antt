use Rattle.std.proofs.Common.{bit_or, append_assoc, cond, leb, ◌≡◌, ◌+◌, ◌-◌, ◌*◌, ◌%◌, ◌^◌, ◌<◌, [], ◌∷◌, ◌++◌, Err, length, drop, inl, inr, refl, sym, ap, subst, ◌∙◌, arith, rules}
use Rattle.std.specs.Prelude.{All}
use Rattle.std.proofs.lemmas.List.Elements.{All-push, All-drop}
use Rattle.nb_cache.specs.View.{seen}
use Rattle.nb_cache.proofs.Callers.{no_file, other_file}
use Rattle.nb_key.specs.Morton.{IsKeyAt}
use Rattle.nb_tree.specs.declared.tree_error.TreeError.TheVariants.{Fault, NoMemory, Damaged}
use Rattle.nb_tree.specs.Passes.{IsClosed, HoldsCells, MayStand, Inserts, HasPassed, LiesIn, Reads, cells_closed, put_below}
use Rattle.nb_tree.proofs.Calls.{goes_none, goes_on, goes_read, goes_ends, goes_ends_read, goes_done, ran_in}
use Rattle.nb_tree.proofs.Deepest.{next_of_lies, lies_of_next}
use Rattle.nb_tree.proofs.Inserting.{may_front, same_itself, same_then, cells_push}
use Rattle.nb_tree.proofs.Moves.{same_file, front_on, held_on, held_back, misplaced_back, reads_none, reads_on}
use Rattle.nb_tree.proofs.Passing.{key_above, octant_key, waits_none, waits_more, waits_last, deepest_passed, begins_read, comes_to, comes_to_end, goes_past, IsReadTo, all_below, end_passed, drop_none, rest_is, may_octant, some_count, kids_small}
use Rattle.nb_record.specs.Cells.{first_body, in_cell}
use Rattle.nb_tree.proofs.Sorted.{front_sorted}
use Rattle.nb_tree.proofs.pass.+pass.Goals as goal

-- ---- at the deepest level

pub returns-in_err-sums-clause-ran : goal.returns-in_err-sums-clause-ran
returns-in_err-sums-clause-ran g t c =
    goes_ends_read (goes_none g.H.Host.meaning (c.args.maker.now.table.file ∷ []) c.args.cache.now c.args.host.now c.requires.in_step)
    c.add_bodies.ensures.ran
    (λ faulted. let error : c.add_bodies.result ≡ Err Fault = search rules in error) (λ error. search rules)

pub returns-then-depth-eq0-clause-passed : goal.returns-then-depth-eq0-clause-passed
returns-then-depth-eq0-clause-passed g t c = λ tells params front leaf fronts at first.
    let cells = c.args.maker.now.table.file in
    let goes = goes_read (goes_none g.H.Host.meaning [] c.args.cache.now c.args.host.now c.requires.in_step) c.add_bodies.ensures.ran (search rules) in
    let same = same_file cells goes (no_file cells) tells in
    let level : 21 - c.args.depth ≡ 21 = (let zero = c.if-depth-eq0.true in omega arith) in
    let first_is = subst (λ l. first_body front (in_cell l c.args.key front) ≡ c.args.reader.now.taken) level first in
    let file = seen g.H.Host.meaning c.args.cache.now c.args.host.now cells in
    subst (λ l. HasPassed params front c.args.depth c.args.key file c.args.maker.now l c.args.maker.now
    (record { key = c.args.key; sums = c.in_ok-sums.sums; first = c.args.reader.now.taken; kids = 0 })) (sym same)
    (deepest_passed params front c.args.depth c.args.key file c.args.maker.now
    (record { key = c.args.key; sums = c.in_ok-sums.sums; first = c.args.reader.now.taken; kids = 0 })
    c.if-depth-eq0.true refl refl (c.in_ok-sums.ensures.sums tells front fronts at first_is) first_is)

pub returns-then-depth-eq0-clause-ran : goal.returns-then-depth-eq0-clause-ran
returns-then-depth-eq0-clause-ran g t c =
    goes_done
    (goes_read (goes_none g.H.Host.meaning (c.args.maker.now.table.file ∷ []) c.args.cache.now c.args.host.now c.requires.in_step)
    c.add_bodies.ensures.ran (search rules))
    (λ faulted. absurd (cc))

-- ---- the loop over the octants

pub loop-octant-init : goal.loop-octant-init
loop-octant-init g t c =
    let some : 0 < c.args.depth = (let other = c.if-depth-eq0.false in omega arith) in
    let none = c.none-sums.ensures.value in
    let count : c.none-sums.result.count ≡ 0 = rw none refl in
    record {
      reader = c.requires.reader;
      maker = c.requires.maker;
      same = same_itself c.args.maker.now;
      reads = subst (λ n. Reads c.args.reader.now c.args.reader.now n) (sym count) (reads_none c.args.reader.now);
      small = c.none-sums.ensures.small;
      some = λ _. c.requires.lies;
      from = c.len-from.ensures.value;
      closed = c.requires.waiting;
      waits = waits_none c.args.waiting.now.items;
      goes = goes_none g.H.Host.meaning (c.args.maker.now.table.file ∷ []) c.args.cache.now c.args.host.now c.requires.in_step;
      at = λ tells front fronts at. at;
      held = λ tells held. held;
      read = λ tells params front leaf fronts at first.
          subst (λ l. IsReadTo params front c.args.depth c.args.key c.args.reader.now.taken c.none-sums.result 0 (cells_closed l)
          (seen g.H.Host.meaning c.args.cache.now c.args.host.now c.args.maker.now.table.file) c.args.maker.now
          (seen g.H.Host.meaning c.args.cache.now c.args.host.now c.args.maker.now.table.file) c.args.maker.now) (sym (drop_none c.args.waiting.now.items))
          (begins_read params (front_sorted fronts) c.args.depth c.args.key some c.requires.depth c.requires.key c.args.reader.now.taken c.none-sums.result
          (seen g.H.Host.meaning c.args.cache.now c.args.host.now c.args.maker.now.table.file) c.args.maker.now first none);
    }

pub child-child-requires-clause-level : goal.child-child-requires-clause-level
child-child-requires-clause-level g t c =
    key_above c.args.depth c.args.key (let other = c.if-depth-eq0.false in omega arith) c.requires.depth c.requires.key

pub pass-requires : goal.pass-requires
pass-requires g t c κs within =
    let inv = c.loop-octant.invariant in
    let some : 0 < c.args.depth = (let other = c.if-depth-eq0.false in omega arith) in
    let deep = c.requires.depth in
    let octant : c.in-Some.octant < 8 = rw c.in-Some.is at c.octant_in.ensures.range in
    let child = c.child-child.ensures in (
      (let smaller = c.decreases in omega arith),
      (
        search rules,
        (
          inv.reader,
          (
            inv.maker,
            (
              (λ same. c.requires.apart (sym inv.reads.file ∙ same ∙ inv.same.file)),
              (
                inv.closed,
                (
                  omega arith,
                  (
                    subst (IsKeyAt (21 - (c.args.depth - 1))) (sym child) (octant_key c.args.depth c.args.key c.in-Some.octant some deep c.requires.key octant),
                    (
                      subst (λ k. LiesIn (21 - (c.args.depth - 1)) k c.loop-octant.reader) (sym child) c.in-Some.ensures.some,
                      inv.goes.writes.in_step,
                    ),
                  ),
                ),
              ),
            ),
          ),
        ),
      ),
    )

pub returns-in_err-kid-clause-damaged : goal.returns-in_err-kid-clause-damaged
returns-in_err-kid-clause-damaged g t c = λ name is tells held.
    let error : c.pass.result ≡ Err (Damaged name) = search rules in
    let inv = c.loop-octant.invariant in
    let some : 0 < c.args.depth = (let other = c.if-depth-eq0.false in omega arith) in
    let deep = c.requires.depth in
    let before = seen g.H.Host.meaning c.args.cache.now c.args.host.now in
    let now = seen g.H.Host.meaning c.loop-octant.cache c.loop-octant.host in
    let file = c.args.reader.now.file in
    let same = same_file file inv.goes (other_file c.requires.apart) tells in
    let child = c.child-child.ensures in
    elim (c.pass.ensures.damaged name error tells (held_on inv.reads before now same (inv.held tells held))) [
      | inl misplaced ↦ inl (misplaced_back inv.reads before now same misplaced)
      | inr never ↦ inr (λ params front cells leaf fronts at first holds may.
          let here = inv.at tells front fronts at in
          let next = next_of_lies here c.in-Some.ensures.some in
          let are = front_sorted fronts in
          let begun = comes_to params are c.args.depth c.args.key some deep c.requires.key (inv.read tells params front leaf fronts at first)
          c.in-Some.octant c.in-Some.ensures.range next in
          let stand = may_octant params are c.args.depth c.args.key some deep c.requires.key cells c.in-Some.ensures.range begun.read may in
          let puts_may = may_front (cells ++ begun.puts) (put_below params front (c.args.depth - 1) (8 * c.args.key + c.in-Some.octant)) stand in
          never params front (cells ++ begun.puts) (leaf ∙ sym inv.same.leaf)
          (front_on inv.reads before now same fronts) here
          (subst (λ k. first_body front (in_cell (21 - (c.args.depth - 1)) k front) ≡ c.loop-octant.reader.taken) (sym child) begun.first)
          (subst (λ f. HoldsCells (now f) c.loop-octant.maker (cells ++ begun.puts)) (sym inv.same.file) (begun.inserts cells holds puts_may))
          (subst (λ k. MayStand ((cells ++ begun.puts) ++ put_below params front (c.args.depth - 1) k)) (sym child) stand))
    ]

pub returns-in_err-kid-clause-ran : goal.returns-in_err-kid-clause-ran
returns-in_err-kid-clause-ran g t c =
    goes_ends c.loop-octant.invariant.goes (ran_in c.loop-octant.invariant.same.file c.pass.ensures.ran)
    (λ faulted. let error : c.pass.result ≡ Err Fault = search rules in error) (λ error. search rules)

pub returns-in_err-push-clause-ran : goal.returns-in_err-push-clause-ran
returns-in_err-push-clause-ran g t c =
    goes_done (goes_on c.loop-octant.invariant.goes (ran_in c.loop-octant.invariant.same.file c.pass.ensures.ran) (search rules))
    (λ faulted. let memory : c.from_residual-in_err-push.result ≡ Err NoMemory = search rules in absurd (cc))

pub loop-octant-preserved : goal.loop-octant-preserved
loop-octant-preserved g t c =
    let inv = c.loop-octant.invariant in
    let some : 0 < c.args.depth = (let other = c.if-depth-eq0.false in omega arith) in
    let deep = c.requires.depth in
    let before = seen g.H.Host.meaning c.args.cache.now c.args.host.now in
    let now = seen g.H.Host.meaning c.loop-octant.cache c.loop-octant.host in
    let after = seen g.H.Host.meaning c.pass.new.cache c.pass.new.host in
    let file = c.args.reader.now.file in
    let child = c.child-child.ensures in
    let kid = c.in_ok-kid.ensures in
    let same_waiting : c.pass.new.waiting.items ≡ c.loop-octant.waiting.items = kid.waiting in
    let pushed : c.push.new.self.items ≡ c.loop-octant.waiting.items ++ c.in_ok-kid.kid ∷ [] =
    c.in_ok-push.ensures.ok ∙ ap (λ l. l ++ c.in_ok-kid.kid ∷ []) same_waiting in
    record {
      reader = kid.reader;
      maker = c.pass.ensures.maker;
      same = same_then inv.same c.pass.ensures.same;
      reads = reads_on inv.reads kid.reads c.plus-sums.ensures.count;
      small = c.plus-sums.ensures.small;
      some = λ none. absurd (let positive = kid.closed.some in omega (arith, c.plus-sums.ensures.count, positive));
      from = inv.from;
      closed = subst (All IsClosed) (sym pushed) (All-push IsClosed c.loop-octant.waiting.items c.in_ok-kid.kid inv.closed kid.closed);
      waits = subst (λ l. l ≡ c.args.waiting.now.items ++ drop (length c.args.waiting.now.items) l) (sym pushed)
          (waits_more c.args.waiting.now.items c.loop-octant.waiting.items c.in_ok-kid.kid inv.waits);
      goes = goes_on inv.goes (ran_in inv.same.file c.pass.ensures.ran) (search rules);
      at = λ tells front fronts at.
          kid.at tells front (front_on inv.reads before now (same_file file inv.goes (other_file c.requires.apart) tells) fronts)
          (inv.at tells front fronts at);
      held = λ tells held.
          let same = same_file file inv.goes (other_file c.requires.apart) tells in
          held_back inv.reads kid.reads before now same (kid.held tells (held_on inv.reads before now same (inv.held tells held)));
      read = λ tells params front leaf fronts at first.
          let same = same_file file inv.goes (other_file c.requires.apart) tells in
          let here = inv.at tells front fronts at in
          let next = next_of_lies here c.in-Some.ensures.some in
          let are = front_sorted fronts in
          let begun = comes_to params are c.args.depth c.args.key some deep c.requires.key (inv.read tells params front leaf fronts at first)
          c.in-Some.octant c.in-Some.ensures.range next in
          let passed = kid.passed tells params front (leaf ∙ sym inv.same.leaf) (front_on inv.reads before now same fronts) here
          (subst (λ k. first_body front (in_cell (21 - (c.args.depth - 1)) k front) ≡ c.loop-octant.reader.taken) (sym child) begun.first) in
          let passed_here = subst (λ f. HasPassed params front (c.args.depth - 1) (8 * c.args.key + c.in-Some.octant) (now f) c.loop-octant.maker (after f) c.pass.new.maker c.in_ok-kid.kid) inv.same.file
          (subst (λ k. HasPassed params front (c.args.depth - 1) k (now c.loop-octant.maker.table.file) c.loop-octant.maker (after c.loop-octant.maker.table.file) c.pass.new.maker c.in_ok-kid.kid) child passed) in
          subst (λ l. IsReadTo params front c.args.depth c.args.key c.pass.new.reader.taken c.plus-sums.result
          (bit_or c.loop-octant.kids ((1 * 2 ^ c.in-Some.octant) % 256)) l
          (before c.args.maker.now.table.file) c.args.maker.now (after c.args.maker.now.table.file) c.pass.new.maker)
          (sym (ap (λ l. cells_closed (drop (length c.args.waiting.now.items) l)) pushed
          ∙ ap cells_closed (waits_last c.args.waiting.now.items c.loop-octant.waiting.items c.in_ok-kid.kid inv.waits)
          ∙ cells_push (drop (length c.args.waiting.now.items) c.loop-octant.waiting.items) c.in_ok-kid.kid))
          (goes_past params are c.args.depth c.args.key some deep c.requires.key c.plus-sums.result c.in_ok-kid.kid c.pass.new.reader.taken c.in-Some.ensures.range begun
          passed_here
          (record {
            count = c.plus-sums.ensures.count;
            mass = c.plus-sums.ensures.mass;
            x = c.plus-sums.ensures.x;
            y = c.plus-sums.ensures.y;
            z = c.plus-sums.ensures.z;
          }) kid.reads.taken);
    }

-- ---- the end

pub put_octants-requires-clause-octants : goal.put_octants-requires-clause-octants
put_octants-requires-clause-octants g t c =
    subst (All IsClosed) (sym (rest_is c.len-from.result c.loop-octant.waiting.items c.as_slice.result.now c.as_slice.ensures))
    (All-drop IsClosed c.len-from.result c.loop-octant.waiting.items c.loop-octant.invariant.closed)

pub returns-in_err-kids-clause-damaged : goal.returns-in_err-kids-clause-damaged
returns-in_err-kids-clause-damaged g t c = λ name is tells held. inr (λ params front cells leaf fronts at first holds may.
    let error : c.put_octants.result ≡ Err (Damaged name) = search rules in
    let inv = c.loop-octant.invariant in
    let some : 0 < c.args.depth = (let other = c.if-depth-eq0.false in omega arith) in
    let deep = c.requires.depth in
    let now = seen g.H.Host.meaning c.loop-octant.cache c.loop-octant.host in
    let here = inv.at tells front fronts at in
    let level : 21 - c.args.depth ≡ 20 - (c.args.depth - 1) = omega arith in
    let to = inv.read tells params front leaf fronts at first in
    let are = front_sorted fronts in
    let end = comes_to_end params are c.args.depth c.args.key some deep c.requires.key to
    (λ next. c.in_default.ensures.none (subst (λ l. LiesIn l c.args.key c.loop-octant.reader) level (lies_of_next here next))) in
    let leaf_is = leaf ∙ sym inv.same.leaf in
    let many : params.leaf < c.loop-octant.sums.count = (let more = c.put_octants.ensures.divided name error in omega (arith, leaf_is, more)) in
    let waiting = cells_closed (drop (length c.args.waiting.now.items) c.loop-octant.waiting.items) in
    let stand = subst MayStand (ap (λ l. cells ++ l) (all_below params are c.args.depth c.args.key some deep c.requires.key end many)
    ∙ sym (append_assoc cells to.puts waiting)) may in
    c.put_octants.ensures.never name error tells (cells ++ to.puts)
    (subst (λ f. HoldsCells (now f) c.loop-octant.maker (cells ++ to.puts)) (sym inv.same.file)
    (to.inserts cells holds (may_front (cells ++ to.puts) waiting stand)))
    (subst (λ l. MayStand ((cells ++ to.puts) ++ cells_closed l)) (sym (rest_is c.len-from.result c.loop-octant.waiting.items c.as_slice.result.now c.as_slice.ensures))
    (subst (λ n. MayStand ((cells ++ to.puts) ++ cells_closed (drop n c.loop-octant.waiting.items))) (sym inv.from) stand)))

pub returns-in_err-kids-clause-ran : goal.returns-in_err-kids-clause-ran
returns-in_err-kids-clause-ran g t c =
    goes_ends c.loop-octant.invariant.goes (ran_in c.loop-octant.invariant.same.file c.put_octants.ensures.ran)
    (λ faulted. let error : c.put_octants.result ≡ Err Fault = search rules in error) (λ error. search rules)

pub returns-clause-closed : goal.returns-clause-closed
returns-clause-closed g t c =
    let inv = c.loop-octant.invariant in
    let some : 0 < c.args.depth = (let other = c.if-depth-eq0.false in omega arith) in
    let deep = c.requires.depth in
    let level : 21 - c.args.depth ≡ 20 - (c.args.depth - 1) = omega arith in
    record {
      key = (21 - c.args.depth, c.requires.key);
      small = inv.small;
      some = some_count c.loop-octant.sums.count (λ none.
          c.in_default.ensures.none (subst (λ l. LiesIn l c.args.key c.loop-octant.reader) level (inv.some none)));
      first = (let more = c.requires.reader.more c.requires.lies.next c.requires.lies.there in let most = c.requires.reader.count in omega arith);
      kids = subst (λ k. k < 256) (sym c.in_ok-kids.ensures.kids) (kids_small (leb c.loop-octant.sums.count c.loop-octant.maker.leaf) c.loop-octant.kids (search rules));
      deepest = λ from. absurd (let small = key_above c.args.depth c.args.key some deep c.requires.key in omega arith);
    }

pub returns-clause-passed : goal.returns-clause-passed
returns-clause-passed g t c = λ tells params front leaf fronts at first.
    let inv = c.loop-octant.invariant in
    let some : 0 < c.args.depth = (let other = c.if-depth-eq0.false in omega arith) in
    let deep = c.requires.depth in
    let now = seen g.H.Host.meaning c.loop-octant.cache c.loop-octant.host in
    let after = seen g.H.Host.meaning c.put_octants.new.cache c.put_octants.new.host in
    let here = inv.at tells front fronts at in
    let level : 21 - c.args.depth ≡ 20 - (c.args.depth - 1) = omega arith in
    let to = inv.read tells params front leaf fronts at first in
    let are = front_sorted fronts in
    let end = comes_to_end params are c.args.depth c.args.key some deep c.requires.key to
    (λ next. c.in_default.ensures.none (subst (λ l. LiesIn l c.args.key c.loop-octant.reader) level (lies_of_next here next))) in
    let leaf_is : c.loop-octant.maker.leaf ≡ params.leaf = inv.same.leaf ∙ sym leaf in
    let put_slice = subst (λ l. Inserts (cond (leb c.loop-octant.sums.count c.loop-octant.maker.leaf) [] (cells_closed l))
    (now c.loop-octant.maker.table.file) c.loop-octant.maker (after c.loop-octant.maker.table.file) c.put_octants.new.self)
    (rest_is c.len-from.result c.loop-octant.waiting.items c.as_slice.result.now c.as_slice.ensures) (c.in_ok-kids.ensures.inserts tells) in
    let put = subst (λ f. Inserts (cond (leb c.loop-octant.sums.count c.loop-octant.maker.leaf) [] (cells_closed (drop c.len-from.result c.loop-octant.waiting.items)))
    (now f) c.loop-octant.maker (after f) c.put_octants.new.self) inv.same.file put_slice in
    let put_leaf_is = subst (λ n. Inserts (cond (leb c.loop-octant.sums.count n) [] (cells_closed (drop c.len-from.result c.loop-octant.waiting.items)))
    (now c.args.maker.now.table.file) c.loop-octant.maker (after c.args.maker.now.table.file) c.put_octants.new.self) leaf_is put in
    let put_is = subst (λ n. Inserts (cond (leb c.loop-octant.sums.count params.leaf) [] (cells_closed (drop n c.loop-octant.waiting.items)))
    (now c.args.maker.now.table.file) c.loop-octant.maker (after c.args.maker.now.table.file) c.put_octants.new.self) inv.from put_leaf_is in
    end_passed params are c.args.depth c.args.key some deep c.requires.key
    (record { key = c.args.key; sums = c.loop-octant.sums; first = c.args.reader.now.taken; kids = c.in_ok-kids.kids })
    end refl refl (c.in_ok-kids.ensures.kids ∙ ap (λ n. cond (leb c.loop-octant.sums.count n) 0 c.loop-octant.kids) leaf_is) first to.inserts put_is

pub returns-clause-ran : goal.returns-clause-ran
returns-clause-ran g t c =
    goes_done (goes_on c.loop-octant.invariant.goes (ran_in c.loop-octant.invariant.same.file c.put_octants.ensures.ran) (search rules))
    (λ faulted. absurd (cc))

pub returns-clause-held : goal.returns-clause-held
returns-clause-held g t c = λ tells held. c.loop-octant.invariant.held tells held

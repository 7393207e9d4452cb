-- Cells that are inserted one after the other.
use Rattle.std.proofs.Common.{◌≡◌, ℕ, ◌+◌, ◌<◌, List, [], ◌∷◌, ◌++◌, length, get_or, take, drop, refl, sym, ap, subst, ◌∙◌, arith, append_assoc}
use Rattle.std.specs.Prelude.{◌≢◌, All, AllPairs}
use Rattle.std.proofs.lemmas.List.{append-nil, length-append, map-append, take-append-drop, take_more, get_or_append_left}
use Rattle.nb_record.specs.declared.cell.Cell.{Cell}
use Rattle.nb_cell.specs.Insertions.{HasInserted}
use Rattle.nb_tree.specs.Passes.{HoldsCells, MayStand, Inserts, SameMaker, cell_closed, cells_closed}
use Rattle.nb_tree.specs.declared.closed.ClosedCell.{ClosedCell}
use Rattle.nb_tree.specs.declared.maker.Maker.{Maker}

-- ---- lists

pairs_front : {X : Type 0} (R : X → X → Type 0) (xs ys : List X) → AllPairs R (xs ++ ys) → AllPairs R xs
pairs_front R xs ys pairs i j d before within =
    subst (λ y. R (get_or xs i d) y) (get_or_append_left xs ys d j within)
    (subst (λ x. R x (get_or (xs ++ ys) j d)) (get_or_append_left xs ys d i (omega arith))
    (pairs i j d before (omega (arith, length-append xs ys))))

last_one : {X : Type 0} (xs : List X) (y d : X) → get_or (xs ++ y ∷ []) (length xs) d ≡ y
last_one [] y d = refl
last_one (x ∷ xs) y d = last_one xs y d

pairs_last : {X : Type 0} (R : X → X → Type 0) (xs : List X) (y : X) → AllPairs R (xs ++ y ∷ []) → All (λ x. R x y) xs
pairs_last R xs y pairs k d below =
    subst (λ z. R (get_or xs k d) z) (last_one xs y d)
    (subst (λ x. R x (get_or (xs ++ y ∷ []) (length xs) d)) (get_or_append_left xs (y ∷ []) d k below)
    (pairs k (length xs) d below (omega (arith, length-append xs (y ∷ [])))))

pub may_front : (xs ys : List Cell) → MayStand (xs ++ ys) → MayStand xs
may_front xs ys may = record {
  differ = pairs_front (λ a b. a.key ≢ b.key) xs ys may.differ;
  few = (let few = may.few in omega (arith, length-append xs ys));
}

pub may_lack : (cells : List Cell) (cell : Cell) → MayStand (cells ++ cell ∷ []) → All (λ c. c.key ≢ cell.key) cells
may_lack cells cell may = pairs_last (λ a b. a.key ≢ b.key) cells cell may.differ

-- ---- insertions

pub inserts_none : (file : List ℕ) (m : Maker) → Inserts [] file m file m
inserts_none file m cells holds may = subst (HoldsCells file m) (sym (append-nil cells)) holds

pub inserts_then : {xs ys : List Cell} {before between now : List ℕ} {old middle new : Maker} → Inserts xs before old between middle
    → Inserts ys between middle now new → Inserts (xs ++ ys) before old now new
inserts_then {xs = xs} {ys = ys} {now = now} {new = new} one two cells holds may =
    let same : (cells ++ xs) ++ ys ≡ cells ++ (xs ++ ys) = append_assoc cells xs ys in
    let both = subst MayStand (sym same) may in
    subst (HoldsCells now new) same (two (cells ++ xs) (one cells holds (may_front (cells ++ xs) ys both)) both)

pub inserts_are : {xs ys : List Cell} {before now : List ℕ} {old new : Maker} → xs ≡ ys → Inserts xs before old now new
    → Inserts ys before old now new
inserts_are {before = before} {now = now} {old = old} {new = new} same one = subst (λ l. Inserts l before old now new) same one

pub inserted : {before now : List ℕ} {old new : Maker} (cell : Cell) → HasInserted old.table new.table cell before now → new.nodes ≡ old.nodes + 1
    → Inserts (cell ∷ []) before old now new
inserted {now = now} {old = old} {new = new} cell has one cells holds may = record {
  table = has.table cells holds.table (may_lack cells cell may);
  padded = has.padded cells holds.table holds.padded;
  nodes = omega (arith, one, holds.nodes, length-append cells (cell ∷ []));
}

-- ---- closed cells, one after the other

pub closed_more : (cs : List ClosedCell) (i : ℕ) (d : ClosedCell) → i < length cs
    → cells_closed (take (i + 1) cs) ≡ cells_closed (take i cs) ++ cell_closed (get_or cs i d) ∷ []
closed_more cs i d below =
    ap cells_closed (take_more cs i d below) ∙ map-append (λ c. cell_closed c) (take i cs) (get_or cs i d ∷ [])

pub closed_ends : (cs : List ClosedCell) (i : ℕ) → cells_closed cs ≡ cells_closed (take i cs) ++ cells_closed (drop i cs)
closed_ends cs i = ap cells_closed (sym (take-append-drop i cs)) ∙ map-append (λ c. cell_closed c) (take i cs) (drop i cs)

-- those before and this one may stand where all may
pub may_next : (held : List Cell) (cs : List ClosedCell) (i : ℕ) (d : ClosedCell) → i < length cs → MayStand (held ++ cells_closed cs)
    → MayStand ((held ++ cells_closed (take i cs)) ++ cell_closed (get_or cs i d) ∷ [])
may_next held cs i d below may =
    let front = closed_more cs i d below in
    let all = closed_ends cs (i + 1) in
    let same : held ++ cells_closed cs ≡ (held ++ cells_closed (take (i + 1) cs)) ++ cells_closed (drop (i + 1) cs) =
    ap (λ l. held ++ l) all ∙ sym (append_assoc held (cells_closed (take (i + 1) cs)) (cells_closed (drop (i + 1) cs))) in
    subst MayStand (ap (λ l. held ++ l) front ∙ sym (append_assoc held (cells_closed (take i cs)) (cell_closed (get_or cs i d) ∷ [])))
    (may_front (held ++ cells_closed (take (i + 1) cs)) (cells_closed (drop (i + 1) cs)) (subst MayStand same may))

pub same_itself : (m : Maker) → SameMaker m m
same_itself m = record { file = refl; bits = refl; leaf = refl }

pub same_then : {a b c : Maker} → SameMaker a b → SameMaker b c → SameMaker a c
same_then one two = record { file = two.file ∙ one.file; bits = two.bits ∙ one.bits; leaf = two.leaf ∙ one.leaf }

pub may_before : (held before : List Cell) (cell : Cell) → MayStand ((held ++ before) ++ cell ∷ []) → MayStand (held ++ before)
may_before held before cell may = may_front (held ++ before) (cell ∷ []) may

pub cells_push : (cs : List ClosedCell) (c : ClosedCell) → cells_closed (cs ++ c ∷ []) ≡ cells_closed cs ++ cell_closed c ∷ []
cells_push cs c = map-append (λ x. cell_closed x) cs (c ∷ [])

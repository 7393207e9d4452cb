-- A file of bodies, as far as it is copied.
use Rattle.std.proofs.Common.{◌≡◌, ℕ, ◌+◌, List, [], ◌∷◌, ◌++◌, length, Some, refl, sym, ap, subst, ◌∙◌, arith, append_assoc, append-nil, length-append}
use Rattle.std.specs.Prelude.{slice_get}
use Rattle.std.proofs.lemmas.Option.{slice_get_within}
use Rattle.nb_model.specs.declared.body.V3.{V3}
use Rattle.nb_model.specs.declared.body.Body.{Body}
use Rattle.nb_record.specs.declared.sizes.TheConstants.{BODY_SIZE}
use Rattle.nb_record.specs.Records.{kick_of}
use Rattle.nb_record.specs.Writing.{IsZeroPaddedFile}
use Rattle.nb_record.specs.Order.{record_of, HoldsBodies}
use Rattle.nb_order.specs.Files.{IsPushed}
use Rattle.nb_order.specs.Indexes.{AreIndexesOf, IsCopyOf}
use Rattle.nb_order.proofs.Pushing.{kicks_pushed}

-- an empty file holds no body
pub holds_none : (file : List ℕ) → file ≡ [] → HoldsBodies file []
holds_none file is = subst (λ f. HoldsBodies f []) (sym is) (record {
  whole = refl;
  pages = λ p below. absurd (omega arith);
  counts = λ p below. absurd (omega arith);
  records = λ j below. absurd (omega arith);
  held = λ j below. absurd (omega arith);
})

-- The file holds the first bodies of the list, so many, with their kicks in the other file, and these are the numbers of
-- the others.
pub record IsCopied (from : List ℕ) (bodies list : List Body) (count : ℕ) (numbers : List ℕ) (file : List ℕ) : Type 0 where
  pub copied : List Body
  pub others : List Body
  pub all : list ≡ copied ++ others
  pub many : length copied ≡ count
  pub copy : IsCopyOf from bodies file copied
  pub numbered : AreIndexesOf bodies numbers others

pub copied_none : (from : List ℕ) (bodies list : List Body) (numbers : List ℕ) (file : List ℕ) → file ≡ [] → AreIndexesOf bodies numbers list
    → IsCopied from bodies list 0 numbers file
copied_none from bodies list numbers file is numbered = record {
  copied = [];
  others = list;
  all = refl;
  many = refl;
  copy = record {
    holds = holds_none file is;
    kicks = λ kick has j b at. absurd (none_at j b at);
    padded = subst (IsZeroPaddedFile BODY_SIZE) (sym is) (λ p has. absurd (omega arith));
  };
  numbered = numbered;
} where
  none_at : (j : ℕ) (b : Body) → slice_get [] j ≡ Some b → ⊥
  none_at j b at = let within = slice_get_within [] j b at in omega arith

-- the next body of a list that isn't copied whole
pub record IsNextCopied (from : List ℕ) (bodies list : List Body) (count index : ℕ) (numbers : List ℕ) (file : List ℕ) : Type 0 where
  pub copied : List Body
  pub body : Body
  pub others : List Body
  pub all : list ≡ (copied ++ body ∷ []) ++ others
  pub many : length copied ≡ count
  pub copy : IsCopyOf from bodies file copied
  pub there : slice_get bodies index ≡ Some body
  pub numbered : AreIndexesOf bodies numbers others

pub copied_next : (from : List ℕ) (bodies list : List Body) (count index : ℕ) (numbers rest : List ℕ) (file : List ℕ) → numbers ≡ index ∷ rest
    → IsCopied from bodies list count numbers file → IsNextCopied from bodies list count index rest file
copied_next from bodies list count index numbers rest file is so_far =
    next so_far.others so_far.all (subst (λ l. AreIndexesOf bodies l so_far.others) is so_far.numbered) where
      next : (others : List Body) → list ≡ so_far.copied ++ others → AreIndexesOf bodies (index ∷ rest) others
          → IsNextCopied from bodies list count index rest file
      next [] all left = absurd left
      next (b ∷ bs) all left = record {
        copied = so_far.copied;
        body = b;
        others = bs;
        all = all ∙ sym (append_assoc so_far.copied (b ∷ []) bs);
        many = so_far.many;
        copy = so_far.copy;
        there = left.0;
        numbered = left.1;
      }

-- a copy with one body more
pub copy_more : (from file after : List ℕ) (bodies copied : List Body) (body : Body) (kick : V3) (index : ℕ) → IsCopyOf from bodies file copied
    → slice_get bodies index ≡ Some body → kick ≡ kick_of (record_of from index) → IsPushed copied body kick file after
    → IsCopyOf from bodies after (copied ++ body ∷ [])
copy_more from file after bodies copied body kick index copy there is pushed = record {
  holds = pushed.holds;
  kicks = λ kicks has. kicks_pushed file after copied body kick kicks (copy.kicks kicks has) (is ∙ has index body there) pushed;
  padded = pushed.padded copy.padded;
}

pub copied_more : (from : List ℕ) (bodies list : List Body) (count index : ℕ) (rest : List ℕ) (file after : List ℕ)
    → (next : IsNextCopied from bodies list count index rest file) → IsCopyOf from bodies after (next.copied ++ next.body ∷ [])
    → IsCopied from bodies list (count + 1) rest after
copied_more from bodies list count index rest file after next copy = record {
  copied = next.copied ++ next.body ∷ [];
  others = next.others;
  all = next.all;
  many = length-append next.copied (next.body ∷ []) ∙ ap (λ n. n + 1) next.many;
  copy = copy;
  numbered = next.numbered;
}

-- where no number is left, the whole list is copied
pub copied_all : (from : List ℕ) (bodies list : List Body) (count : ℕ) (file : List ℕ) → IsCopied from bodies list count [] file
    → IsCopyOf from bodies file list
copied_all from bodies list count file is = whole is.others is.all is.numbered where
  whole : (others : List Body) → list ≡ is.copied ++ others → AreIndexesOf bodies [] others → IsCopyOf from bodies file list
  whole [] all left = subst (IsCopyOf from bodies file) (sym (all ∙ append-nil is.copied)) is.copy
  whole (b ∷ bs) all left = absurd left

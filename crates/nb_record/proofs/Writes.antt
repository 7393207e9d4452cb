-- What a read finds beside a write, and at it.
use Rattle.std.proofs.Common.{◌≡◌, ℕ, ◌+◌, ◌-◌, ◌^◌, ◌<◌, ◌≤◌, List, ◌++◌, length, take, drop, sym, ap, ◌∙◌, arith}
use Rattle.std.proofs.lemmas.List.{append_assoc, length-append, length-take-le, length-drop, take-take, take_at, take-append-le, drop-drop, drop_at, drop-append-le, drop-take}
use Rattle.byteorder.specs.Endian.{little_number}
use Rattle.byteorder.specs.Numbers.{little_from-take, little_number-reads_back, length-bytes_low_first}
use Rattle.nb_record.specs.Fields.{u64_at, u32_at, u64_bytes, u32_bytes, written}

-- a write within the bytes
abbrev pub Within : ℕ → List ℕ → List ℕ → Type 0
Within at piece bytes = at + length piece ≤ length bytes

front : (at : ℕ) (bytes : List ℕ) → at ≤ length bytes → length (take at bytes) ≡ at
front at bytes within = length-take-le at bytes within

-- the bytes up to the end of a write
head_length : (at : ℕ) (piece bytes : List ℕ) → at ≤ length bytes → length (take at bytes ++ piece) ≡ at + length piece
head_length at piece bytes within = omega (arith, length-append (take at bytes) piece, front at bytes within)

pub length-written : (at : ℕ) (piece bytes : List ℕ) → at + length piece ≤ length bytes → length (written at piece bytes) ≡ length bytes
length-written at piece bytes within =
    omega (arith, length-append (take at bytes ++ piece) (drop (at + length piece) bytes), head_length at piece bytes (omega arith), length-drop (at + length piece) bytes)

pub part_before : (at : ℕ) (piece bytes : List ℕ) (k n : ℕ) → at ≤ length bytes → k + n ≤ at → take n (drop k (written at piece bytes)) ≡ take n (drop k bytes)
part_before at piece bytes k n within before =
    let rest = piece ++ drop (at + length piece) bytes in
    let long = front at bytes within in
    let same : k + (at - k) ≡ at = omega arith in
    let inside : drop k (take at bytes) ≡ take (at - k) (drop k bytes) = ap (λ e. drop k (take e bytes)) (sym same) ∙ drop-take k (at - k) bytes in
    let left : n ≤ length (drop k (take at bytes)) = omega (arith, length-drop k (take at bytes), long) in
    ap (λ l. take n (drop k l)) (append_assoc (take at bytes) piece (drop (at + length piece) bytes))
    ∙ ap (take n) (drop-append-le k (take at bytes) rest (omega (arith, long)))
    ∙ take-append-le n (drop k (take at bytes)) rest left
    ∙ ap (take n) inside
    ∙ take-take n (at - k) (drop k bytes) (omega arith)

pub part_after : (at : ℕ) (piece bytes : List ℕ) (k : ℕ) → at ≤ length bytes → at + length piece ≤ k → drop k (written at piece bytes) ≡ drop k bytes
part_after at piece bytes k within after =
    let end = at + length piece in
    let same : k ≡ end + (k - end) = omega arith in
    ap (λ e. drop e (written at piece bytes)) same
    ∙ sym (drop-drop (k - end) end (written at piece bytes))
    ∙ ap (drop (k - end)) (drop_at (take at bytes ++ piece) (drop end bytes) end (head_length at piece bytes within))
    ∙ drop-drop (k - end) end bytes
    ∙ ap (λ e. drop e bytes) (sym same)

pub drop_here : (at : ℕ) (piece bytes : List ℕ) → at ≤ length bytes → drop at (written at piece bytes) ≡ piece ++ drop (at + length piece) bytes
drop_here at piece bytes within =
    ap (drop at) (append_assoc (take at bytes) piece (drop (at + length piece) bytes))
    ∙ drop_at (take at bytes) (piece ++ drop (at + length piece) bytes) at (front at bytes within)

pub part_here : (at : ℕ) (piece bytes : List ℕ) (n : ℕ) → at ≤ length bytes → length piece ≡ n → take n (drop at (written at piece bytes)) ≡ piece
part_here at piece bytes n within long =
    ap (take n) (drop_here at piece bytes within) ∙ take_at piece (drop (at + length piece) bytes) n long

-- two writes, one behind the other, are one
pub written_twice : (at : ℕ) (p q bytes : List ℕ) (then : ℕ) → then ≡ at + length p → at ≤ length bytes → then ≤ length bytes → written then q (written at p bytes) ≡ written at (p ++ q) bytes
written_twice at p q bytes then is within within_then =
    let end : then + length q ≡ at + length (p ++ q) = omega (arith, length-append p q) in
    let head : take then (written at p bytes) ≡ take at bytes ++ p = take_at (take at bytes ++ p) (drop (at + length p) bytes) then (head_length at p bytes within ∙ sym is) in
    ap (λ l. l ++ q ++ drop (then + length q) (written at p bytes)) head
    ∙ ap (λ l. take at bytes ++ p ++ q ++ l) (part_after at p bytes (then + length q) within (omega arith))
    ∙ ap (λ l. take at bytes ++ p ++ q ++ drop l bytes) end
    ∙ ap (λ l. l ++ drop (at + length (p ++ q)) bytes) (append_assoc (take at bytes) p q)

-- ---- words

pub length-u64_bytes : (n : ℕ) → length (u64_bytes n) ≡ 8
unfolding u64_bytes
length-u64_bytes n = length-bytes_low_first 0 8 n

pub length-u32_bytes : (n : ℕ) → length (u32_bytes n) ≡ 4
unfolding u32_bytes
length-u32_bytes n = length-bytes_low_first 0 4 n

word_part : (k : ℕ) (bytes : List ℕ) → little_number 8 (take 8 (drop k bytes)) ≡ u64_at k bytes
unfolding u64_at
word_part k bytes = little_from-take 0 8 8 (drop k bytes) (omega arith)

short_part : (k : ℕ) (bytes : List ℕ) → little_number 4 (take 4 (drop k bytes)) ≡ u32_at k bytes
unfolding u32_at
short_part k bytes = little_from-take 0 4 4 (drop k bytes) (omega arith)

-- a part of a piece, before what stands behind the piece
part_front : (k n : ℕ) (p rest : List ℕ) → k + n ≤ length p → take n (drop k (p ++ rest)) ≡ take n (drop k p)
part_front k n p rest within =
    ap (take n) (drop-append-le k p rest (omega arith)) ∙ take-append-le n (drop k p) rest (omega (arith, length-drop k p))

pub word_front : (k : ℕ) (p rest : List ℕ) → k + 8 ≤ length p → u64_at k (p ++ rest) ≡ u64_at k p
word_front k p rest within =
    sym (word_part k (p ++ rest)) ∙ ap (little_number 8) (part_front k 8 p rest within) ∙ word_part k p

pub short_front : (k : ℕ) (p rest : List ℕ) → k + 4 ≤ length p → u32_at k (p ++ rest) ≡ u32_at k p
short_front k p rest within =
    sym (short_part k (p ++ rest)) ∙ ap (little_number 4) (part_front k 4 p rest within) ∙ short_part k p

pub word_before : (at : ℕ) (piece bytes : List ℕ) (k : ℕ) → at ≤ length bytes → k + 8 ≤ at → u64_at k (written at piece bytes) ≡ u64_at k bytes
word_before at piece bytes k within before =
    sym (word_part k (written at piece bytes)) ∙ ap (little_number 8) (part_before at piece bytes k 8 within before) ∙ word_part k bytes

pub word_after : (at : ℕ) (piece bytes : List ℕ) (k : ℕ) → at ≤ length bytes → at + length piece ≤ k → u64_at k (written at piece bytes) ≡ u64_at k bytes
unfolding u64_at
word_after at piece bytes k within after = ap (little_number 8) (part_after at piece bytes k within after)

pub word_first : (n : ℕ) (rest : List ℕ) → n < 2 ^ 64 → u64_at 0 (u64_bytes n ++ rest) ≡ n
unfolding u64_at u64_bytes
word_first n rest fits = little_number-reads_back 8 n rest (omega arith)

pub short_first : (n : ℕ) (rest : List ℕ) → n < 2 ^ 32 → u32_at 0 (u32_bytes n ++ rest) ≡ n
unfolding u32_at u32_bytes
short_first n rest fits = little_number-reads_back 4 n rest (omega arith)

pub word_here : (at n : ℕ) (bytes : List ℕ) → at ≤ length bytes → n < 2 ^ 64 → u64_at at (written at (u64_bytes n) bytes) ≡ n
unfolding u64_at
word_here at n bytes within fits =
    ap (little_number 8) (drop_here at (u64_bytes n) bytes within) ∙ word_first n (drop (at + length (u64_bytes n)) bytes) fits

-- a word behind a piece
pub word_past : (p rest : List ℕ) (n k : ℕ) → length p ≡ n → u64_at (n + k) (p ++ rest) ≡ u64_at k rest
unfolding u64_at
word_past p rest n k long =
    ap (little_number 8) (sym (drop-drop k n (p ++ rest)) ∙ ap (drop k) (drop_at p rest n long))

pub short_past : (p rest : List ℕ) (n k : ℕ) → length p ≡ n → u32_at (n + k) (p ++ rest) ≡ u32_at k rest
unfolding u32_at
short_past p rest n k long =
    ap (little_number 4) (sym (drop-drop k n (p ++ rest)) ∙ ap (drop k) (drop_at p rest n long))

-- Which line of a parameter text is the first faulty one, by what stands on it and on the lines before it.
use Rattle.std.specs.Prelude.{◌≡◌, ℕ, ◌+◌, ◌<◌, Bool, true, false, if◌then◌else◌, Option, Some, None, List, [], ◌∷◌, take, slice_get, option_and_then}
use Rattle.nb_format.specs.declared.params_error.ParamsError.{ParamsError}
use Rattle.nb_format.specs.declared.params_error.ParamsError.TheVariants as refused
use Rattle.nb_format.specs.declared.params_line.Line.{Line}
use Rattle.nb_format.specs.declared.params_line.Line.TheVariants.{Skipped, Malformed, Setting, Border}
use Rattle.nb_format.specs.ParamsText.{is_in_range, line_of, settings_of, edges_of}

-- whether a list has an element
abbrev pub has_any : {X : Type 0} → List X → Bool
has_any [] = false
has_any (x ∷ xs) = true

-- The fault of a line of this number, behind these lines: it isn't of the form; else its name stands on a line before; else
-- its number is out of range.
abbrev pub fault_behind : List (List ℕ) → ℕ → Line → Option ParamsError
fault_behind before number Skipped = None
fault_behind before number Malformed = Some (refused.Line number)
fault_behind before number (Setting which value) =
    if has_any (settings_of which before) then Some (refused.Twice number)
    else (if is_in_range which value then None else Some (refused.Range number))
fault_behind before number (Border edge) = if has_any (edges_of before) then Some (refused.Twice number) else None

-- the fault of the line with this index, from 0 on, whose number is one more
abbrev pub fault_at : List (List ℕ) → ℕ → Option ParamsError
fault_at lines index = option_and_then (λ line. fault_behind (take index lines) (index + 1) (line_of line)) (slice_get lines index)

-- The line with this index is the first faulty one, and this is its fault.
pub record IsFirstFault (lines : List (List ℕ)) (index : ℕ) (error : ParamsError) : Type 0 where
  pub fault : fault_at lines index ≡ Some error
  pub before : (earlier : ℕ) → earlier < index → fault_at lines earlier ≡ None

-- a refusal of the line of this number
abbrev pub IsOfLine : ℕ → ParamsError → Type 0
IsOfLine number (refused.Line n) = n ≡ number
IsOfLine number (refused.Twice n) = n ≡ number
IsOfLine number (refused.Range n) = n ≡ number
IsOfLine number error = ⊥

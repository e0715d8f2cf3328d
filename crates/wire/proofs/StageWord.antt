-- A line that stages a document is one word.
use Rattle.std.proofs.Common.{◌≡◌, ℕ, List, [], ◌∷◌, ◌++◌, Bool, take, drop, inl, refl, sym, ap, ◌∙◌, take-append-drop, append-nil}
use Rattle.std.specs.List.{position_or_len}
use Rattle.wire.specs.Reading.{fields_of}
use Rattle.wire.specs.Requests.{IsRequest, request_word}
use Rattle.wire.specs.Values.{AreSpelled}
use Rattle.wire.specs.Words.{is_space, words_of}
use Rattle.wire.specs.declared.request.Request.TheVariants as request
use Rattle.wire.specs.declared.request_word.RequestWord.TheVariants as word
use Rattle.wire.proofs.Splits.{first_word}

no_fields : (fields : List (List ℕ)) → AreSpelled [] fields → fields ≡ []
no_fields [] is = refl
no_fields (field ∷ fields) is = absurd is

none_after : (rest : List ℕ) → fields_of rest ≡ [] → rest ≡ []
unfolding words_of
none_after [] is = refl
none_after (byte ∷ rest) is = let words = first_word rest in absurd cc

pub stage_alone : (scripted : Bool) (line : List ℕ) → IsRequest scripted line request.Stage → line ≡ request_word word.Stage
stage_alone scripted line is =
    let end = position_or_len is_space line in
    let none = no_fields is.fields is.said.spelled in
    let words : take end line ∷ fields_of (drop end line) ≡ request_word word.Stage ∷ [] = sym (first_word line) ∙ is.words ∙ ap (λ (fields : List (List ℕ)). request_word word.Stage ∷ fields) none in
    let first : take end line ≡ request_word word.Stage = cc in
    let rest : fields_of (drop end line) ≡ [] = cc in
    sym (take-append-drop end line) ∙ ap (λ (tail : List ℕ). take end line ++ tail) (none_after (drop end line) rest) ∙ append-nil (take end line) ∙ first

pub stage_read : (scripted : Bool) → IsRequest scripted (request_word word.Stage) request.Stage
unfolding words_of
stage_read scripted = record { fields = []; words = refl; said = record { word = refl; takes = inl refl; spelled = tt } }

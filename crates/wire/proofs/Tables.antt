-- The table of request words has every one of them.
use Rattle.std.proofs.Common.{◌≡◌, ℕ, List, [], ◌∷◌, Bool, true≢false, Option, Some, None, IfSome, IfNone, find, inl, inr, refl, sym, ◌∙◌}
use Rattle.std.proofs.lemmas.Slice.Eq.{bytes_eq-Decides}
use Rattle.std.specs.Str.{bytes_eq}
use Rattle.plain_laws.proofs.Members.{Among}
use Rattle.plain_laws.proofs.Options.{find_among, find_none}
use Rattle.wire.specs.Requests.{request_word}
use Rattle.wire.specs.declared.request_word.RequestWord.{RequestWord}
use Rattle.wire.specs.declared.request_word.RequestWord.TheVariants.{Open, Close, Release, Remove, Cut, Clamp, Jumper, Ground, Trace, Look, Stage, Cutover, Bye}

abbrev pub all_words : List RequestWord
all_words = Open ∷ Close ∷ Release ∷ Remove ∷ Cut ∷ Clamp ∷ Jumper ∷ Ground ∷ Trace ∷ Look ∷ Stage ∷ Cutover ∷ Bye ∷ []

among_all : (w : RequestWord) → Among all_words w
among_all Open = inl refl
among_all Close = inr (inl refl)
among_all Release = inr (inr (inl refl))
among_all Remove = inr (inr (inr (inl refl)))
among_all Cut = inr (inr (inr (inr (inl refl))))
among_all Clamp = inr (inr (inr (inr (inr (inl refl)))))
among_all Jumper = inr (inr (inr (inr (inr (inr (inl refl))))))
among_all Ground = inr (inr (inr (inr (inr (inr (inr (inl refl)))))))
among_all Trace = inr (inr (inr (inr (inr (inr (inr (inr (inl refl))))))))
among_all Look = inr (inr (inr (inr (inr (inr (inr (inr (inr (inl refl)))))))))
among_all Stage = inr (inr (inr (inr (inr (inr (inr (inr (inr (inr (inl refl))))))))))
among_all Cutover = inr (inr (inr (inr (inr (inr (inr (inr (inr (inr (inr (inl refl)))))))))))
among_all Bye = inr (inr (inr (inr (inr (inr (inr (inr (inr (inr (inr (inr (inl refl))))))))))))

abbrev is_word : List ℕ → RequestWord → Bool
is_word word w = bytes_eq (request_word w) word

pub word_found : (word : List ℕ) (o : Option RequestWord) → o ≡ find (λ w. bytes_eq (request_word w) word) all_words → IfSome o (λ w. word ≡ request_word w)
word_found word None is = tt
word_found word (Some w) is = sym ((bytes_eq-Decides (request_word w) word).0 (find_among (is_word word) all_words w (sym is)).1)

pub word_none : (word : List ℕ) (o : Option RequestWord) → o ≡ find (λ w. bytes_eq (request_word w) word) all_words
    → IfNone o ((w : RequestWord) → word ≡ request_word w → ⊥)
word_none word (Some w) is = tt
word_none word None is = λ w same. true≢false (sym ((bytes_eq-Decides (request_word w) word).1 (sym same)) ∙ find_none (is_word word) all_words w (sym is) (among_all w))

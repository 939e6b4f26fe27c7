-- The first word of a text. Assumes nothing.
use Rattle.std.proofs.Common.{◌≡◌, ℕ, ◌+◌, ◌<◌, Bool, true, false, cond, not, List, [], ◌∷◌, ◌++◌, length, take, drop, sym, refl, ap, ◌∙◌, append_assoc, append-nil, one-add, arith}
use Rattle.std.specs.List.{prefix_len}
use Rattle.journal_text.specs.declared.scan.Class.TheVariants.{Blank, Solid}
use Rattle.journal_text.specs.Scans.{within}
use Rattle.journal_words.specs.Words.{words_after, words}

-- a run is over where it ends
no_more : (p : ℕ → Bool) (bs : List ℕ) → prefix_len p (drop (prefix_len p bs) bs) ≡ 0
no_more p [] = refl
no_more p (b ∷ bs) = by (p b) refl (no_more p bs)
  where
    by : (t : Bool) → p b ≡ t → prefix_len p (drop (prefix_len p bs) bs) ≡ 0 → prefix_len p (drop (cond t (1 + prefix_len p bs) 0) (b ∷ bs)) ≡ 0
    by true e more = rw one-add more
    by false e more = rw e

-- blanks before the first word do not matter
past_blanks : (bs : List ℕ) → words bs ≡ words (drop (prefix_len (within Blank) bs) bs)
past_blanks [] = refl
past_blanks (b ∷ bs) = by (within Blank b) refl (past_blanks bs)
  where
    by : (t : Bool) → within Blank b ≡ t → words bs ≡ words (drop (prefix_len (within Blank) bs) bs) → cond t (words bs) (words_after (b ∷ []) bs) ≡ words (drop (cond t (1 + prefix_len (within Blank) bs) 0) (b ∷ bs))
    by true e more = rw one-add more
    by false e more = rw e

-- a word begun ends at the next blank
word_begun : (c : ℕ) (cs bs : List ℕ) → words_after (c ∷ cs) bs ≡ (c ∷ (cs ++ take (prefix_len (within Solid) bs) bs)) ∷ words (drop (prefix_len (within Solid) bs) bs)
word_begun c cs [] = ap (λ l. (c ∷ l) ∷ []) (sym (append-nil cs))
word_begun c cs (b ∷ bs) = by (within Blank b) refl (word_begun c (cs ++ (b ∷ [])) bs)
  where
    by : (t : Bool) → within Blank b ≡ t → words_after (c ∷ (cs ++ (b ∷ []))) bs ≡ (c ∷ ((cs ++ (b ∷ [])) ++ take (prefix_len (within Solid) bs) bs)) ∷ words (drop (prefix_len (within Solid) bs) bs) → cond t ((c ∷ cs) ∷ words bs) (words_after (c ∷ (cs ++ (b ∷ []))) bs) ≡ (c ∷ (cs ++ take (cond (not t) (1 + prefix_len (within Solid) bs) 0) (b ∷ bs))) ∷ words (drop (cond (not t) (1 + prefix_len (within Solid) bs) 0) (b ∷ bs))
    by true e more = rw (append-nil, e)
    by false e more = rw one-add (rw append_assoc at more)

-- the first word of a text that begins with one
first_word : (bs : List ℕ) → prefix_len (within Blank) bs ≡ 0 → 0 < length bs → words bs ≡ take (prefix_len (within Solid) bs) bs ∷ words (drop (prefix_len (within Solid) bs) bs)
first_word [] z h = absurd (omega arith)
first_word (b ∷ bs) z h = by (within Blank b) refl z
  where
    by : (t : Bool) → within Blank b ≡ t → cond t (1 + prefix_len (within Blank) bs) 0 ≡ 0 → cond t (words bs) (words_after (b ∷ []) bs) ≡ take (cond (not t) (1 + prefix_len (within Solid) bs) 0) (b ∷ bs) ∷ words (drop (cond (not t) (1 + prefix_len (within Solid) bs) 0) (b ∷ bs))
    by true e z = absurd (omega arith)
    by false e z = rw one-add (word_begun b [] bs)

-- a text of blanks alone has no words
pub no_words : (bs text : List ℕ) → text ≡ drop (prefix_len (within Blank) bs) bs → length text ≡ 0 → words bs ≡ []
no_words bs [] e h = past_blanks bs ∙ ap words (sym e)
no_words bs (b ∷ text) e h = absurd (omega arith)

-- the first word, past the blanks before it, and what follows it
pub next_word : (bs text word rest : List ℕ) → text ≡ drop (prefix_len (within Blank) bs) bs → 0 < length text → word ≡ take (prefix_len (within Solid) text) text → rest ≡ drop (prefix_len (within Solid) text) text → words bs ≡ word ∷ words rest
next_word bs text word rest e h front back =
    past_blanks bs ∙ ap words (sym e) ∙ first_word text (ap (prefix_len (within Blank)) e ∙ no_more (within Blank) bs) h ∙ sym (λ i. front i ∷ words (back i))

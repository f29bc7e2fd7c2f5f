-- One step of what a program's definition counts, and its end.
use Rattle.std.proofs.Common.{◌≡◌, ℕ, ◌+◌, ◌*◌, ◌%◌, List, [], ◌∷◌, ◌++◌, pos, ◌∙◌, ap, add-one, append_assoc, append-nil}
use Rattle.rv_table.specs.declared.op.Op.TheVariants.{Auipc, Lui, Addi, Sw}
use Rattle.rv_table.specs.Fields.{inst_of}
use Rattle.rv_table.specs.Table.{word_of}
use Rattle.load_gen.specs.Generated.{moved, draw, after, start_words, step_inst, step_words, generated}

-- the first of some draws
pub after-more : (m n s t : ℕ) → m ≡ n + 1 → t ≡ moved s → after n t ≡ after m s
unfolding after
after-more m n s t e f = rw (e, f, add-one)

-- no draw
pub after-none : (m s : ℕ) → m ≡ 0 → after m s ≡ s
unfolding after
after-none m s e = rw e

-- a word that goes over to what is there
pub goes_over : (ws new rest : List ℕ) (w : ℕ) → new ≡ ws ++ w ∷ [] → new ++ rest ≡ ws ++ w ∷ rest
goes_over ws new rest w e = rw (e, append_assoc)

-- the first of some registers goes over
pub start_words-more : (m n k s t w : ℕ) (ws new : List ℕ) → m ≡ n + 1 → t ≡ moved s
    → w ≡ word_of (inst_of Addi k 0 0 (pos (draw s % 2048))) → new ≡ ws ++ w ∷ []
    → new ++ start_words n (k + 1) t ≡ ws ++ start_words m k s
unfolding start_words
start_words-more m n k s t w ws new e f g h =
    rw (e, f, add-one n)
    (goes_over ws new (start_words n (k + 1) (moved s)) w h ∙ ap (λ (v : ℕ). ws ++ v ∷ start_words n (k + 1) (moved s)) g)

-- no register is left
pub start_words-none : (m k s : ℕ) (ws : List ℕ) → m ≡ 0 → ws ++ start_words m k s ≡ ws
unfolding start_words
start_words-none m k s ws e = rw e (append-nil ws)

-- the first of some steps goes over
pub step_words-more : (m n s t w : ℕ) (ws new : List ℕ) → m ≡ n + 1 → t ≡ after 4 s
    → w ≡ word_of (step_inst s) → new ≡ ws ++ w ∷ []
    → new ++ step_words n t ≡ ws ++ step_words m s
unfolding step_words
step_words-more m n s t w ws new e f g h =
    rw (e, f, add-one n)
    (goes_over ws new (step_words n (after 4 s)) w h ∙ ap (λ (v : ℕ). ws ++ v ∷ step_words n (after 4 s)) g)

-- no step is left
pub step_words-none : (m s : ℕ) (ws : List ℕ) → m ≡ 0 → ws ++ step_words m s ≡ ws
unfolding step_words
step_words-none m s ws e = rw e (append-nil ws)

-- the words one behind the other
pub generated_of : (seed blocks s a b c : ℕ) (none one starts steps two all : List ℕ) → none ≡ [] → one ≡ none ++ a ∷ []
    → starts ≡ one ++ start_words 15 1 seed → steps ≡ starts ++ step_words (8 * blocks) s → two ≡ steps ++ b ∷ [] → all ≡ two ++ c ∷ []
    → s ≡ after 15 seed → a ≡ word_of (inst_of Auipc 31 0 0 (pos 0x80)) → b ≡ word_of (inst_of Lui 30 0 0 (pos 0x100))
    → c ≡ word_of (inst_of Sw 0 30 0 (pos 0)) → all ≡ generated seed blocks
unfolding generated
generated_of seed blocks s a b c none one starts steps two all e f g h i j k l m n =
    rw (j, i, h, g, f, e, k, l, m, n)
    (append_assoc (word_of (inst_of Auipc 31 0 0 (pos 0x80)) ∷ start_words 15 1 seed ++ step_words (8 * blocks) (after 15 seed))
    (word_of (inst_of Lui 30 0 0 (pos 0x100)) ∷ []) (word_of (inst_of Sw 0 30 0 (pos 0)) ∷ []))

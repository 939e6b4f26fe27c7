-- A diagram as the moves that build it: the code by which proofs tell lists of diagrams apart. Assumes nothing.
use Rattle.std.specs.Prelude.{◌≡◌, ℕ, ◌⊎◌, List, [], ◌∷◌, ◌++◌, refl}
use Rattle.std.specs.Coded.{Coded, code_by, coded_ℕ, coded_list, coded⊎}
use Rattle.std.proofs.Common.{inl, inr, sym, ◌∙◌, ap}
use Rattle.std.proofs.lemmas.List.{append-nil, append_assoc}
use Rattle.diagrams.specs.Diagrams.{Diagram, leaf, node}

-- A leaf, or a node of the last two that were built.
abbrev pub Move : Type 0
Move = ℕ ⊎ ℕ

-- The moves that build a diagram.
abbrev pub moves : Diagram → List Move
moves (leaf v) = inl v ∷ []
moves (node l a b) = moves a ++ (moves b ++ (inr l ∷ []))

-- A node of the last two diagrams.
abbrev pub joined : ℕ → List Diagram → List Diagram
joined l [] = []
joined l (b ∷ []) = b ∷ []
joined l (b ∷ a ∷ built) = node l a b ∷ built

-- What stands built after some moves.
abbrev pub built : List Move → List Diagram → List Diagram
built [] ds = ds
built (inl v ∷ more) ds = built more (leaf v ∷ ds)
built (inr l ∷ more) ds = built more (joined l ds)

-- The last diagram that is built.
abbrev pub newest : List Diagram → Diagram
newest [] = leaf 0
newest (d ∷ ds) = d

pub built_moves : (d : Diagram) (more : List Move) (ds : List Diagram) → built (moves d ++ more) ds ≡ built more (d ∷ ds)
built_moves (leaf v) more ds = refl
built_moves (node l a b) more ds =
    ap (λ all. built all ds) (append_assoc (moves a) (moves b ++ (inr l ∷ [])) more)
    ∙ built_moves a ((moves b ++ (inr l ∷ [])) ++ more) ds
    ∙ ap (λ all. built all (a ∷ ds)) (append_assoc (moves b) (inr l ∷ []) more)
    ∙ built_moves b (inr l ∷ more) (a ∷ ds)

pub built_back : (d : Diagram) → newest (built (moves d) []) ≡ d
built_back d = ap (λ all. newest (built all [])) (sym (append-nil (moves d))) ∙ ap newest (built_moves d [] [])

-- A diagram is stored as its moves.
abbrev pub diagram_code : Coded Diagram
diagram_code = code_by (List Move) (coded_list (coded⊎ coded_ℕ coded_ℕ)) moves (λ all. newest (built all [])) built_back

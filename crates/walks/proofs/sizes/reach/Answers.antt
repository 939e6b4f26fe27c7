use Rattle.std.proofs.Common.{◌≡◌, ℕ, List, [], ◌++◌, drop, replicate, sym, ap, ◌∙◌, subst, arith}
use Rattle.places.specs.declared.places.Places.{Places}
use Rattle.walks.specs.Walks.{Collected}
use Rattle.walks.proofs.Lists.{cleared_zero, cleared_past}
use Rattle.walks.proofs.Walking.{begin}
use Rattle.walks.proofs.sizes.reach.Goals as goal

-- On a cleared list, a walk with an empty order has come to nothing.
begun : (t : Places) (n : ℕ) (xs marks order : List ℕ) → n ≡ t.capacity → marks ≡ replicate n 0 ++ drop n xs → order ≡ []
    → Collected t marks order []
begun t n xs marks order room cleared empty =
    subst (λ o. Collected t marks o []) (sym empty) (begin t marks (λ h lt. cleared_zero n xs marks cleared h (omega arith)))

pub collect-requires : goal.collect-requires
collect-requires c = record {
  used = c.requires.used;
  room = omega arith;
  begun = ([], begun c.args.places.now c.capacity.result c.args.marks.now _ _ c.capacity.ensures c.clear.ensures c.new-order.ensures);
}

pub returns : goal.returns
returns c = record {
  walked = λ d p. c.collect.ensures.visits d [] p
      (begun c.args.places.now c.capacity.result c.args.marks.now _ _ c.capacity.ensures c.clear.ensures c.new-order.ensures);
  past = c.collect.ensures.past
      ∙ ap (λ n. drop n c.clear.new.list) (sym c.capacity.ensures)
      ∙ cleared_past c.capacity.result c.args.marks.now c.clear.new.list c.clear.ensures
      ∙ ap (λ n. drop n c.args.marks.now) c.capacity.ensures;
}

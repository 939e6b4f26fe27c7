-- What a table keeps to, and what filling leaves as it was. Assumes nothing.
use Rattle.std.proofs.Common.{◌≡◌, ℕ, ◌+◌, ◌<◌, ◌≤◌, false, ◌⊎◌, Some, None, Option, sym, refl, ap, ◌∙◌, subst, inl, inr, ⊎_elim, arith}
use Rattle.std.proofs.lemmas.Bool.{cases_Bool}
use Rattle.std.proofs.lemmas.Grind.{common_steps}
use Rattle.diagrams.specs.Diagrams.{Diagram}
use Rattle.diagrams.specs.Places.{Content, node_at, Place, vacant, Stands, Unshared}
use Rattle.places.specs.declared.places.Places.{Places}
use Rattle.places.specs.Contents.{in_use, depth, deep}
use Rattle.places.specs.Tables.{place, holds, Used, Under, Held, Extends, Given, Filling}
use Rattle.places.proofs.Standing.{stands_kept}
use Rattle.places.proofs.Holding.{unused_free, quiet_vacant, leafy_used, leafy_deep, below_parts, deep_parts}

module _ (t : Places) where
  pub unshared : Unshared (holds t)
  unshared g h e = grind (arith, common_steps, t.apart g h, unused_free (holds t g))

  pub used_below : (h : ℕ) → Used t h → h < t.capacity
  used_below h u = grind (arith, common_steps, t.past h)

  -- A place that is not in use is the free one.
  pub unused_vacant : (h : ℕ) → in_use (holds t h) ≡ false → place t h ≡ vacant
  unused_vacant h n = quiet_vacant (place t h) (t.idle h) n

  pub past_vacant : (h : ℕ) → t.capacity ≤ h → place t h ≡ vacant
  past_vacant h le = unused_vacant h (t.past h le)

  -- The children of a node in use are in use and stand deeper.
  pub node_under : (h l x y : ℕ) → holds t h ≡ node_at l x y → (l < 32) × Under t (l + 1) x × Under t (l + 1) y
  node_under h l x y e =
      let n = deep_parts (holds t) l x y (sym (ap (deep (holds t)) e) ∙ t.deeper h) in
      let low = below_parts (holds t) l x n.1 in
      let high = below_parts (holds t) l y n.2 in
      (n.0, record { used = low.0; level = omega arith }, record { used = high.0; level = omega arith })

  -- Places 0 and 1 are in use and stand deepest.
  pub zero_under : Under t 32 0
  zero_under = record { used = leafy_used (holds t 0) t.zero; level = omega (arith, leafy_deep (holds t 0) t.zero) }

  pub one_under : Under t 32 1
  one_under = record { used = leafy_used (holds t 1) t.one; level = omega (arith, leafy_deep (holds t 1) t.one) }

pub under_higher : {t : Places} {l m h : ℕ} → l ≤ m → Under t m h → Under t l h
under_higher le p = record { used = p.used; level = omega (arith, p.level) }

module _ {t u : Places} (x : Extends t u) where
  pub holds_same : (h : ℕ) → Used t h → holds u h ≡ holds t h
  holds_same h p = ap (λ (q : Place). q.content) (x.same h p)

  pub used_still : (h : ℕ) → Used t h → Used u h
  used_still h p = cc (holds_same h p)

  pub under_still : (l h : ℕ) → Under t l h → Under u l h
  under_still l h p = record { used = used_still h p.used; level = omega (arith, ap depth (holds_same h p.used), p.level) }

  pub stands_still : (d : Diagram) (h : ℕ) → Stands (holds t) d h → Stands (holds u) d h
  stands_still = stands_kept (holds t) (holds u) holds_same

  pub held_still : (d : Diagram) → Held t d → Held u d
  held_still d p = (p.0, stands_still d p.0 p.1)

pub stays : (t : Places) → Extends t t
stays t = record { room = refl; same = λ h p. refl; fresh = λ h p q. grind arith }

pub then : {t u v : Places} → Extends t u → Extends u v → Extends t v
then {u = u} x y = record {
  room = cc;
  same = λ h p. cc (x.same h p, y.same h (used_still x h p));
  fresh = λ h p q. grind (arith, common_steps, x.fresh h p, y.same h, y.fresh h);
}

module _ {before after : Places} {c : Content} {h : ℕ} (n : Given before after c h) where
  -- A place in use was in use before, or is the one that is given.
  pub given_only : (g : ℕ) → Used after g → Used before g ⊎ (g ≡ h)
  given_only g u = grind (arith, common_steps, n.others g)

  -- The place that is given held the content already, or was free.
  pub given_was : (holds before h ≡ c) ⊎ (place before h ≡ vacant)
  given_was =
      ⊎_elim (λ used. inl (sym (holds_same n.extends h used) ∙ n.here)) (λ none. inr (unused_vacant before h none)) (cases_Bool (in_use (holds before h)))

-- Filling extends a table, whatever it answers.
pub filling_extends : (before after : Places) (c : Content) (r : Option ℕ) → Filling before after c r → Extends before after
filling_extends before after c None n = subst (Extends before) (sym n.still) (stays before)
filling_extends before after c (Some h) n = n.extends

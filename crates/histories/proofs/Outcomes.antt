-- Two steps from one table and one request agree. Assumes nothing.
use Rattle.std.proofs.Common.{◌≡◌, ℕ, ◌⊎◌, length, sym, refl, ap, ◌∙◌, subst, ap₂, inl, inr, arith}
use Rattle.diagrams.specs.Kinds.{Kind}
use Rattle.diagrams.specs.Layouts.{Layout}
use Rattle.diagrams.specs.Diagrams.{Lawful, Diagram, rule}
use Rattle.diagrams.specs.Sizes.{extent}
use Rattle.diagrams.specs.Sheets.{sheet}
use Rattle.diagrams.proofs.Places.{stands_for_one}
use Rattle.histories.specs.Tables.{Model, content, Live}
use Rattle.histories.specs.Requests.{Look, size, write, grade, Call, build, read, hold, let_go, sweep, look, release, reopen, Layer, gives, done, refused, Asked, Answer}
use Rattle.histories.specs.Steps.{layer, Reached, Shows, Does, Accepted, Refused, Step}
use Rattle.histories.specs.Histories.{Fixed, Alike, OneOutcome, AlikeAfter, OneOutcomeAfter}
use Rattle.histories.proofs.Sound.{Sound}
use Rattle.histories.proofs.Different.{exactly_one}
use Rattle.histories.proofs.Faults.{none_first}
use Rattle.histories.proofs.Reachability.{reachable_sound}
use Rattle.histories.proofs.SheetsAccepted.{gives_refuses}
use Rattle.histories.proofs.FirstFault.{one_first}
use Rattle.histories.proofs.Afters.{does_output, does_room, does_state, refused_state}

done_gives : {x : ℕ} → done ≡ gives x → ⊥
done_gives e = let z : ◌≡◌ {A = ℕ} 0 1 = cc in omega arith

done_refuses : {f p : ℕ} {l : Layer} → done ≡ refused f l p → ⊥
done_refuses e = let z : ◌≡◌ {A = ℕ} 0 1 = cc in omega arith

module _ (K : Kind) (L : Layout) (m : Model) (q : Asked) where
  module _ (n : Model) (a : Answer) where
    -- An accepted call gives a number, or is done where it releases or reopens.
    does_reply : (c : Call) → Does K L m q c a n → ((x : ℕ) × (a.reply ≡ gives x)) ⊎ (((c ≡ release) ⊎ (c ≡ reopen)) × (a.reply ≡ done))
    does_reply (build b) s = inl (s.0, s.1.0)
    does_reply (read bs) s = inl (s.0, s.1.0)
    does_reply (hold h) s = inl (s.0, s.1.0)
    does_reply (let_go h) s = inl (s.0, s.1.0)
    does_reply sweep s = inl (s.0, s.1.0)
    does_reply (look (size h)) s = inl (extent s.0, s.1.1.0)
    does_reply (look (write h)) s = inl (length (sheet K L s.0), s.1.1)
    does_reply (look (grade h fruit)) s = inl (rule K L s.0 fruit, s.1.1.0)
    does_reply release s = inr (inl refl, s.0)
    does_reply reopen s = inr (inr refl, s.0)

    does_done : (c : Call) → (c ≡ release) ⊎ (c ≡ reopen) → Does K L m q c a n → a.reply ≡ done
    does_done c (inl e) s = (subst (λ c. Does K L m q c a n) e s).0
    does_done c (inr e) s = (subst (λ c. Does K L m q c a n) e s).0

    does_accepts : (c : Call) (f : ℕ) (l : Layer) (p : ℕ) → Does K L m q c a n → a.reply ≡ refused f l p → ⊥
    does_accepts c f l p s e =
        elim (does_reply c s) [ inl r ↦ gives_refuses (sym r.1 ∙ e) | inr r ↦ done_refuses (sym r.1 ∙ e) ]

  module _ (n n' : Model) (a b : Answer) where
    shows_same : (l : Look) (d e : Diagram) → Shows K L m q l d a → Shows K L m q l e b → b.reply ≡ a.reply
    shows_same (size h) d e s t =
        t.1.0 ∙ ap (λ x. gives (extent x)) (stands_for_one (content m) e d h t.0 s.0) ∙ sym s.1.0
    shows_same (write h) d e s t =
        t.1 ∙ ap (λ x. gives (length (sheet K L x))) (stands_for_one (content m) e d h t.0 s.0) ∙ sym s.1
    shows_same (grade h fruit) d e s t =
        t.1.0 ∙ ap (λ x. gives (rule K L x fruit)) (stands_for_one (content m) e d h t.0 s.0) ∙ sym s.1.0

    -- Where no handle is chosen, an accepted call has one reply.
    does_same : (c : Call) → Fixed c → Does K L m q c a n → Does K L m q c b n' → b.reply ≡ a.reply
    does_same (build x) fixed s t = absurd fixed
    does_same (read bs) fixed s t = absurd fixed
    does_same (hold h) fixed s t = t.1.0 ∙ ap gives (t.3 ∙ sym s.3) ∙ sym s.1.0
    does_same (let_go h) fixed s t =
        let same : t.0 ≡ s.0 = omega (arith, s.3, t.3) in t.1.0 ∙ ap gives same ∙ sym s.1.0
    does_same sweep fixed s t =
        let same = exactly_one (λ h. Live m h × (¬ Reached m h)) t.0 s.0 t.2.freed s.2.freed in
        t.1.0 ∙ ap gives same ∙ sym s.1.0
    does_same (look l) fixed s t = shows_same l s.0 t.0 s.1 t.1
    does_same release fixed s t = t.0 ∙ sym s.0
    does_same reopen fixed s t = t.0 ∙ sym s.0

    -- Where the one gives a number, so does the other.
    does_gives : (c : Call) (x : ℕ) → Does K L m q c a n → Does K L m q c b n' → a.reply ≡ gives x → (y : ℕ) × (b.reply ≡ gives y)
    does_gives c x s t e =
        elim (does_reply n' b c t) [ inl r ↦ r | inr r ↦ absurd (done_gives (sym (does_done n a c r.0 s) ∙ e)) ]

    -- Not both that the one step accepts and the other refuses.
    not_both : Accepted K L m q a n → Refused K L m q b n' → ⊥
    not_both r s = none_first _ s.number s.byte_place r.faultless s.first

    -- Two refusals are one.
    refused_same : Lawful K L → Sound K L m → Refused K L m q a n → Refused K L m q b n' → b.reply ≡ a.reply
    refused_same ok sound r s =
        let same = one_first K L ok m sound q s.number s.byte_place r.number r.byte_place s.first r.first in
        s.told ∙ ap₂ (λ f p. refused f (layer f) p) same.0 same.1 ∙ sym r.told

  module _ (n n' : Model) (a b : Answer) (s : Step K L m q a n) (t : Step K L m q b n') where
    both_accept : Accepted K L m q a n → Accepted K L m q b n' → Alike q a b × AlikeAfter q a b n n'
    both_accept r u = (
      record {
        accepted = λ x e. does_gives n n' a b q.call x r.does u.does e;
        refusals = λ f l p e. absurd (does_accepts n a q.call f l p r.does e);
        replies = λ fixed. does_same n n' a b q.call fixed r.does u.does;
      },
      record {
        walk = t.walk ∙ sym s.walk;
        output = does_output K L m q n n' a b q.call r.does u.does;
        layout = t.layout ∙ sym s.layout;
        phase = u.phase ∙ sym r.phase;
        room = does_room K L m q n' b q.call u.does ∙ sym (does_room K L m q n a q.call r.does);
        settled = λ fixed. does_state K L m q n n' a b q.call fixed r.does u.does;
        kept = λ f l p e. absurd (does_accepts n a q.call f l p r.does e);
      },
    )

    both_refuse : Lawful K L → Sound K L m → Refused K L m q a n → Refused K L m q b n' → Alike q a b × AlikeAfter q a b n n'
    both_refuse ok sound r u =
        let state = refused_state K L m q n n' a b ok sound r u in (
          record {
            accepted = λ x e. absurd (gives_refuses (sym e ∙ r.told));
            refusals = λ f l p e. refused_same n n' a b ok sound r u;
            replies = λ fixed. refused_same n n' a b ok sound r u;
          },
          record {
            walk = t.walk ∙ sym s.walk;
            output = u.output ∙ sym r.output;
            layout = t.layout ∙ sym s.layout;
            phase = u.phase ∙ sym r.phase;
            room = ap length (u.places ∙ sym r.places);
            settled = λ fixed. state;
            kept = λ f l p e. state;
          },
        )

    alike : Lawful K L → Sound K L m → Alike q a b × AlikeAfter q a b n n'
    alike ok sound = both s.outcome t.outcome
      where
        both : Accepted K L m q a n ⊎ Refused K L m q a n → Accepted K L m q b n' ⊎ Refused K L m q b n' → Alike q a b × AlikeAfter q a b n n'
        both (inl r) (inl u) = both_accept r u
        both (inl r) (inr u) = absurd (not_both n n' a b r u)
        both (inr r) (inl u) = absurd (not_both n' n b a u r)
        both (inr r) (inr u) = both_refuse ok sound r u

pub all_alike : OneOutcome
all_alike K L ok m n n' q a b here s t = (alike K L m q n n' a b s t ok (reachable_sound ok here)).0

pub all_alike_after : OneOutcomeAfter
all_alike_after K L ok m n n' q a b here s t = (alike K L m q n n' a b s t ok (reachable_sound ok here)).1

-- What is true of every history, and of any two. Assumes nothing.
use Rattle.std.proofs.Common.{◌≡◌, ℕ, ◌↔◌, List, length, take, sym, refl, ap, ◌∙◌, subst, ap₂, inl, inr, arith}
use lib.Seq.{take-append-le}
use Rattle.std.proofs.Math.Seq.{take-length}
use Rattle.diagrams.specs.Kinds.{Kind}
use Rattle.diagrams.specs.Layouts.{Layout}
use Rattle.diagrams.specs.Diagrams.{Lawful, Diagram, rule}
use Rattle.diagrams.specs.Sheets.{sheet}
use Rattle.diagrams.proofs.Places.{stands_for_one}
use Rattle.diagrams.proofs.Whole.{faithful}
use Rattle.histories.specs.Tables.{Model, content, StandsFor, Agree, HasRule, Made}
use Rattle.histories.specs.Requests.{look, write, Asked, Answer}
use Rattle.histories.specs.Steps.{Does, Step}
use Rattle.histories.specs.Books.{Log, ledger}
use Rattle.histories.specs.Histories.{Reachable, fresh, further, Told, Since, none_yet, next, History, AllTold, Unfreed, Wrote, Lasting, Sameness}
use Rattle.histories.proofs.Standing.{stands_good, rule_moves, handles_meet}
use Rattle.histories.proofs.Pigeons.{parts_fit}
use Rattle.histories.proofs.Keeping.{step_stands}
use Rattle.histories.proofs.Reachability.{reachable_sound, kept_step}
use Rattle.histories.proofs.Booked.{Fits, made_fits, step_fits}
use Rattle.histories.proofs.SheetsAccepted.{gives_refuses, gives_same, reads_step}

module _ (K : Kind) (L : Layout) where
  since_reachable : {m n : Model} {log : Log} → Since K m log n → Reachable K L m → Reachable K L n
  since_reachable none_yet here = here
  since_reachable (next s kept) here = let r = since_reachable s here in further r (kept_step r kept)

  since_rule : {m n : Model} {log : Log} (s : Since K m log n) → Reachable K L m → (h : ℕ) (f : ℕ → ℕ)
      → HasRule K L m h f → Unfreed K h s → HasRule K L n h f
  since_rule none_yet here h f r u = r
  since_rule (next {k = k} {n = n} {q = q} {a = a} s kept) here h f r u =
      rule_moves K L k n h f (λ d p. step_stands K L k n q a (kept_step (since_reachable s here) kept) d h p u.1) (since_rule s here h f r u.0)

  module _ (ok : Lawful K L) where
    step_told : (m n : Model) (q : Asked) (a : Answer) → Reachable K L m → Step K L m q a n → Told K L m q a n
    step_told m n q a here step = record {
      step = step;
      reads = λ s asks long. reads_step K L ok m (reachable_sound ok here) n q a s (reachable_sound ok (further here step)) asks step long;
    }

    since_told : {m n : Model} {log : Log} (s : Since K m log n) → Reachable K L m → AllTold K L s
    since_told none_yet here = tt
    since_told (next {k = k} {n = n} {q = q} {a = a} s kept) here =
        let r = since_reachable s here in
        (since_told s here, step_told k n q a r (kept_step r kept))

    since_fits : {m n : Model} {log : Log} (s : Since K m log n) (c : ℕ) → Made K L c m → Fits K L n (ledger K L log)
    since_fits {m} none_yet c made = made_fits K L m c made
    since_fits {m} (next {log = log} {k = k} {n = n} {q = q} {a = a} s kept) c made =
        let r = since_reachable s (fresh c made) in
        let step = kept_step r kept in
        step_fits K L k n (ledger K L log) (since_fits s c made) ok (reachable_sound ok r) (reachable_sound ok (further r step)) q a step

    module _ (log : Log) (m : Model) (p : History K L log m) where
      start : Reachable K L p.first
      start = fresh p.places p.made

      pub reached : Reachable K L m
      reached = since_reachable p.since start

      pub lasting : Lasting K L log m p
      lasting = record {
        told = since_told p.since start;
        ruled = λ h l. let g = (reachable_sound ok reached).good h l in (rule K L g.0, (g.0, g.2, λ w _. refl));
        same_handle = handles_meet ok m (reachable_sound ok reached);
        one_rule = λ later n s h f r u. since_rule s reached h f r u;
        booked = (since_fits p.since p.places p.made).rules;
      }

    -- A written sheet is that of the diagram for which its handle stands.
    wrote_sheet : (m : Model) → Reachable K L m → (h : ℕ) (s : List ℕ) → Wrote K m h s → (d : Diagram) → StandsFor m d h → s ≡ sheet K L d
    wrote_sheet m here h s w d p =
        elim (kept_step here w.kept).outcome [
          | inl r ↦
              let does : Does K L m w.asked (look (write h)) w.answer w.after =
              subst (λ c. Does K L m w.asked c w.answer w.after) w.writes r.does in
              let e = does.0 in
              let size : w.many ≡ length (sheet K L e) = gives_same (sym w.accepted ∙ does.1.1) in
              w.written ∙ ap₂ take size does.1.2 ∙ take-append-le (length (sheet K L e)) (sheet K L e) _ (omega arith) ∙ take-length (sheet K L e)
              ∙ ap (sheet K L) (stands_for_one (content m) e d h does.1.0 p)
          | inr r ↦ absurd (gives_refuses (sym w.accepted ∙ r.told))
        ]

    same_sheet : (m m' : Model) → Reachable K L m → Reachable K L m' → (g h : ℕ) (f f' : ℕ → ℕ) (s s' : List ℕ)
        → HasRule K L m g f → HasRule K L m' h f' → Wrote K m g s → Wrote K m' h s' → (s ≡ s') ↔ Agree L f f'
    same_sheet m m' here here' g h f f' s s' r r' w w' =
        let sound = reachable_sound ok here in
        let sound' = reachable_sound ok here' in
        let one : s ≡ sheet K L r.0 = wrote_sheet m here g s w r.0 r.1 in
        let other : s' ≡ sheet K L r'.0 = wrote_sheet m' here' h s' w' r'.0 r'.1 in
        let meet = faithful K L ok r.0 r'.0 (stands_good m sound r.0 g r.1) (stands_good m' sound' r'.0 h r'.1)
        (omega (arith, parts_fit m sound r.0 g r.1)) (omega (arith, parts_fit m' sound' r'.0 h r'.1)) in (
          λ e w k. sym (r.2 w k) ∙ meet.0 (sym one ∙ e ∙ other) w k ∙ r'.2 w k,
          λ e. one ∙ meet.1 (λ w k. r.2 w k ∙ e w k ∙ sym (r'.2 w k)) ∙ sym other,
        )

pub all_lasting : Sameness
all_lasting K L ok log log' m m' p p' = (
  lasting K L ok log m p,
  lasting K L ok log' m' p',
  same_sheet K L ok m m' (reached K L ok log m p) (reached K L ok log' m' p'),
)

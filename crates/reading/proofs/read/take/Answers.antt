use Rattle.std.proofs.Common.{rules, ◌≡◌, ℕ, ◌<◌, get_or, take, Ok, Err, Result, MatchResult, IsErrAnd, ap, ◌∙◌, w8}
use Rattle.std.proofs.lemmas.Result.{err_from_is_err_and}
use mir.Facts.{Fits-lt-pow}
use Rattle.diagrams.specs.Diagrams.{Lawful}
use Rattle.refusals.specs.declared.fault.TableFault.TheVariants.{Full}
use Rattle.layouts.specs.View.{view}
use Rattle.layouts.proofs.Laying.{layout_valid}
use Rattle.reading.proofs.Taking.{whole_counted, whole_ready, whole_read}
use Rattle.reading.proofs.read.take.Goals as goal

-- What `map_err` answers, where its closure gives f of an error.
err_told : {A E F : Type 0} (P : E → F → Type 0) (f : E → F) (r : Result A E) (q : Result A F) → MatchResult r (λ h. q ≡ Ok h) (λ e. IsErrAnd q (P e))
    → ((e : E) (x : F) → P e x → x ≡ f e) → MatchResult r (λ h. q ≡ Ok h) (λ e. q ≡ Err (f e))
err_told P f (Ok h) q m says = m
err_told P f (Err e) q m says = let x = err_from_is_err_and q m in x.1 ∙ ap Err (says e x.0 x.2)

pub fill-requires : goal.fill-requires
fill-requires g c =
    let K = g.K.Value.kind in
    let L = view c.args.layout.now in
    let ok : Lawful K L = record { laws = g.K.Value.laws; valid = layout_valid c.args.layout.now } in
    let typed : (i : ℕ) → get_or c.args.bytes.now i 0 < 256 = λ i. Fits-lt-pow {w = w8} (c.type_inv.bytes i) in
    let whole = c.in_ok-count.ensures.answer in
    (K, L, whole.seen, whole_ready K L ok c.args.places.now c.capacity.result c.capacity.ensures _ _ typed _ whole, whole_counted K L ok c.args.places.now c.capacity.result c.capacity.ensures _ _ typed _ whole)

pub returns-clause-answer : goal.returns-clause-answer
returns-clause-answer g c =
    let K = g.K.Value.kind in
    let L = view c.args.layout.now in
    let ok : Lawful K L = record { laws = g.K.Value.laws; valid = layout_valid c.args.layout.now } in
    let typed : (i : ℕ) → get_or c.args.bytes.now i 0 < 256 = λ i. Fits-lt-pow {w = w8} (c.type_inv.bytes i) in
    let whole = c.in_ok-count.ensures.answer in
    let ready = whole_ready K L ok c.args.places.now c.capacity.result c.capacity.ensures _ _ typed _ whole in
    let counted = whole_counted K L ok c.args.places.now c.capacity.result c.capacity.ensures _ _ typed _ whole in
    let told : MatchResult c.fill.result (λ h. c.map_err.result ≡ Ok h) (λ full. c.map_err.result ≡ Err (Full (get_or (take c.in_ok-count.count c.admit.new.list) full.number 0))) =
    err_told _ _ c.fill.result c.map_err.result c.map_err.ensures.cases (λ e x p. search rules) in
    whole_read K L ok c.args.places.now c.capacity.result c.capacity.ensures _ _ typed _ whole c.fill.new.places c.fill.result c.map_err.result
    (c.fill.ensures.filled K L whole.seen ready counted) c.fill.ensures.inside told

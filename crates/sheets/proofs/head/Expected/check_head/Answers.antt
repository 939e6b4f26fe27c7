-- The head that is expected is that of the kind and layout, so each check is that of a rule. Assumes nothing.
use Rattle.std.proofs.Common.{◌≡◌, false, Some, rules, ◌+◌, ◌*◌, ◌++◌, length, drop, sym, refl, ap, ◌∙◌, arith}
use Rattle.std.proofs.lemmas.Slice.Eq.{starts_is}
use Rattle.diagrams.specs.Reading.{stated, cut, kind_of}
use Rattle.diagrams.specs.Sheets.{header}
use Rattle.sheets.specs.declared.kind.RecordKind.TheVariants.{Head}
use Rattle.sheets.proofs.Heading.{other_kind, not_head, body_long, begins_not, wrong_length, wrong_head}
use Rattle.sheets.proofs.Scanning.{length_header}
use Rattle.sheets.proofs.head.Expected.check_head.Goals as goal
use Rattle.sheets.proofs.head.Expected.check_head.Goals.{Else-ne}
use Rattle.std.proofs.lemmas.Bool.Decides.{Decides-eqb}

pub returns-then-ne : goal.returns-then-ne
returns-then-ne c = λ K L suits.
    let other : c.in_ok-frame.frame.kind ≡ Some Head → ⊥ = search rules in
    rw c.at.ensures (record {
      refused = not_head K L c.args.self.limit c.args.bytes.now c.in_ok-frame.ensures.whole (other_kind _ c.in_ok-frame.frame.kind c.in_ok-frame.ensures.kind_is other);
      there = refl;
    })

-- The frame of a head.
head_frame : (c : goal.Else-ne) → (cut c.args.bytes.now ≡ false) × (kind_of c.args.bytes.now ≡ 1) × (length c.in_ok-frame.frame.body.now ≡ stated c.args.bytes.now)
head_frame c =
    let is_head : c.in_ok-frame.frame.kind ≡ Some Head = search rules in (
      c.in_ok-frame.ensures.whole,
      sym (rw is_head at c.in_ok-frame.ensures.kind_is),
      ap length c.in_ok-frame.ensures.body_is ∙ body_long c.args.bytes.now c.in_ok-frame.ensures.whole,
    )

pub returns-then-frame-self : goal.returns-then-frame-self
returns-then-frame-self c = λ K L suits.
    let f = head_frame (goal.at.returns-then-frame-self c).Else-ne in
    let long = ap length suits.head_is ∙ length_header K L in
    rw c.at-then-frame-self.ensures (record {
      refused = wrong_length K L c.args.self.limit c.args.bytes.now f.0 f.1 (λ e. c.if-frame-self.true (omega (arith, long, f.2)));
      there = refl;
    })

pub returns-then-not-starts_with : goal.returns-then-not-starts_with
returns-then-not-starts_with c = λ K L suits.
    let f = head_frame (goal.at.returns-then-not-starts_with c).Else-ne in
    let long = ap length suits.head_is ∙ length_header K L in
    let stated_is : stated c.args.bytes.now ≡ 2 + 2 * L.size = omega (arith, long, f.2, c.if-frame-self.false) in
    let starts = starts_is Decides-eqb c.args.bytes.now c.args.self.head.now _ c.if-not-starts_with.ensures.value in
    rw c.at-then-not-starts_with.ensures (record {
      refused = wrong_head K L c.args.self.limit c.args.bytes.now f.0 f.1 stated_is
          (begins_not (header K L) c.args.bytes.now (λ rest e. starts.1 rest (e ∙ ap (λ h. h ++ rest) (sym suits.head_is))));
      there = refl;
    })

pub returns : goal.returns
returns c = λ K L suits.
    let starts = starts_is Decides-eqb c.args.bytes.now c.args.self.head.now _ c.if-not-starts_with.ensures.value in
    starts.0 refl ∙ ap (λ h. h ++ drop (length h) c.args.bytes.now) suits.head_is

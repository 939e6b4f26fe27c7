-- The last step of a call: its answer is put into the table, and offered to the store. Assumes nothing.
use Rattle.std.proofs.Common.{◌≡◌, ℕ, ◌≤◌, true, false, List, [], ◌∷◌, Some, None, Option, sym, refl, ap, ◌∙◌, subst, ap₂, inl, inr, arith}
use mathlib.Core.List.Memᴰ
use mathlib.Core.List.{Memᴰ}
use Rattle.std.proofs.lemmas.Bool.{false≢true}
use Rattle.std.proofs.lemmas.Option.{same_Some}
use Rattle.diagrams.specs.Kinds.{Kind}
use Rattle.diagrams.specs.Layouts.{Decomposition, shannon, positive, negative, Layout}
use Rattle.diagrams.specs.Diagrams.{Lawful, Diagram, leaf, node, Good, same, spare, make}
use Rattle.diagrams.specs.Tasks.{Task, Fit, result}
use Rattle.diagrams.specs.Building.{smaller, shortcut, Inside, itself, deeper, Needs}
use Rattle.diagrams.specs.Places.{Content, leaf_word, node_at, Stands}
use Rattle.diagrams.proofs.Places.{stands_for_one, one_handle}
use Rattle.histories.specs.Stores.{Key, Entries, Offered}
use Rattle.histories.specs.Tables.{Phase, Model, StandsFor, Outnumber}
use Rattle.histories.specs.Steps.{Keyed, Gains, Needed, Offering, Worked}
use Rattle.histories.proofs.Sound.{Sound}
use Rattle.histories.proofs.StepSound.{one_worked_sound}
use Rattle.histories.proofs.Inner.{inside_fit}
use Rattle.histories.proofs.Keeping.{gains_moves}
use Rattle.histories.proofs.Rightness.{keyed_moves}
use Rattle.places.specs.declared.places.Places.{Places}
use Rattle.places.specs.Contents.{in_use, depth}
use Rattle.places.specs.Tables.{holds, Held, Extends, Filling}
use Rattle.places.proofs.Extending.{unshared, stands_still, held_still, filling_extends}
use Rattle.building.specs.Work.{model}
use Rattle.building.specs.Parts.{spared, NoHigher, Joined}
use Rattle.building.specs.Calls.{BroughtBack, Finished, Closed}
use Rattle.building.proofs.Seeing.{seen_stands, stands_seen, seen_content}
use Rattle.building.proofs.Toward.{Toward, toward_start, toward_given, toward_gains, toward_full}
use Rattle.building.proofs.Keys.{keyed_one}
use Rattle.building.proofs.Working.{own_needed, UnderTask, worked_idle, worked_none, worked_then, worked_within, outnumber_within}

make_dropped : (K : Kind) (L : Layout) (l : ℕ) (a b : Diagram) → b ≡ spare K (L.type l) a → make K L l a b ≡ a
make_dropped K L l a b e =
    elim (same b (spare K (L.type l) a)) as (λ s. elim s [ yes _ ↦ a | no _ ↦ node l a b ] ≡ a) [ yes _ ↦ refl | no n ↦ absurd (n e) ]

make_kept : (K : Kind) (L : Layout) (l : ℕ) (a b : Diagram) → ¬ (b ≡ spare K (L.type l) a) → make K L l a b ≡ node l a b
make_kept K L l a b n =
    elim (same b (spare K (L.type l) a)) as (λ s. elim s [ yes _ ↦ a | no _ ↦ node l a b ] ≡ node l a b) [ yes e ↦ absurd (n e) | no _ ↦ refl ]

spare_stands : (t : Places) (K : Kind) → holds t 0 ≡ leaf_word K.zero → (s : Decomposition) (d : Diagram) (h : ℕ)
    → Stands (holds t) d h → Stands (holds t) (spare K s d) (spared s h)
spare_stands t K z shannon d h p = p
spare_stands t K z positive d h p = z
spare_stands t K z negative d h p = z

-- Where a content that is asked for stands.
pub filling_inside : (t u : Places) (c : Content) (l : ℕ) (r : Option ℕ) → in_use c ≡ true → l ≤ depth c → Filling t u c r → NoHigher u l r
filling_inside t u c l None i b n = tt
filling_inside t u c l (Some h) i b n = record { used = ap in_use n.here ∙ i; level = omega (arith, ap depth n.here) }

-- The node of x and y was asked for, since they are not the parts of a deeper handle.
pub noded_joined : (L : Layout) (t u : Places) (l x y : ℕ) (r : Option ℕ) → (y ≡ spared (L.type l) x → ⊥) → Filling t u (node_at l x y) r → Joined L t u l x y r
noded_joined L t u l x y r other n = record {
  kept = filling_extends t u (node_at l x y) r n;
  inside = filling_inside t u (node_at l x y) l r refl (omega arith) n;
  how = inr (record { other = other; filling = n });
}

pub sound_zero : {K : Kind} {L : Layout} (f : Entries) (p : Phase) (t : Places) → Sound K L (model L f p t) → holds t 0 ≡ leaf_word K.zero
sound_zero {L = L} f p t s = sym (seen_content L f p t 0) ∙ s.zero

pub sound_one : {K : Kind} {L : Layout} (f : Entries) (p : Phase) (t : Places) → Sound K L (model L f p t) → holds t 1 ≡ leaf_word K.one
sound_one {L = L} f p t s = sym (seen_content L f p t 1) ∙ s.one

module _ (K : Kind) (L : Layout) (task : Task) where
  -- What the call needs.
  abbrev P : Diagram → Type 0
  P = Needed K L (task ∷ [])

  -- All that the smaller calls need is in use.
  abbrev pub PartsHeld : Places → Type 0
  PartsHeld t = (part : Task) → Memᴰ part (smaller K L task) → (d : Diagram) → Needs K L part d → Held t d

  -- Where there are no smaller calls, it is.
  pub none_held : smaller K L task ≡ [] → (t : Places) → PartsHeld t
  none_held e t part q d n = absurd (Memᴰ.not-nil (subst (Memᴰ part) e q))

  all_held : (u : Places) → Held u (result K L task) → PartsHeld u → (d : Diagram) → P d → Held u d
  all_held u own parts d n = go need.inside need.is
    where
      need : Needs K L task d
      need = subst (λ t. Needs K L t d) (Memᴰ.eq_of_singleton n.1) n.2

      go : {part : Task} → Inside K L task part → d ≡ result K L part → Held u d
      go (itself e) is = subst (Held u) (sym (is ∙ ap (result K L) e)) own
      go {part} (deeper {next = next} q i) is = parts next q d (record { part = part; inside = i; is = is })

  -- The answer found a place, and nothing but what the call needs came into use; or there was no room.
  abbrev pub Put : Entries → Phase → Places → Places → Option ℕ → Type 0
  Put f p t u None = Outnumber (model L f p t) P
  Put f p t u (Some h) = Toward K L P t u × Stands (holds u) (result K L task) h

  module _ (f : Entries) (p : Phase) (t : Places) (sound : Sound K L (model L f p t)) where
    -- The answer stands there already.
    pub put_there : (h : ℕ) → Stands (holds t) (result K L task) h → Put f p t t (Some h)
    put_there h s = (toward_start K L P f p t sound, s)

    -- The answer has a content, which is asked for.
    put_content : (u : Places) (d : Diagram) (c : Content) → d ≡ result K L task → Good K L 0 d
        → ((v : Places) → Extends t v → (h : ℕ) → holds v h ≡ c → Stands (holds v) d h) → ((h : ℕ) → Stands (holds t) d h → holds t h ≡ c)
        → (r : Option ℕ) → Filling t u c r → Put f p t u r
    put_content u d c e good to from None n = toward_full K L P f p (toward_start K L P f p t sound) n d from (subst P (sym e) (own_needed K L task))
    put_content u d c e good to from (Some h) n =
        let here : Stands (holds u) d h = to u n.extends h n.here in
        (toward_given K L P (toward_start K L P f p t sound) n d here good (subst P (sym e) (own_needed K L task)), subst (λ x. Stands (holds u) x h) e here)

    -- A leaf answers.
    pub put_leaf : (u : Places) (v : ℕ) → leaf v ≡ result K L task → Good K L 0 (leaf v) → (r : Option ℕ) → Filling t u (leaf_word v) r → Put f p t u r
    put_leaf u v e good = put_content u (leaf v) (leaf_word v) e good (λ w x h q. q) (λ h q. q)

    -- The node of two parts answers, unless the drop rule removes it.
    pub put_joined : (u : Places) (l x y : ℕ) (a b : Diagram) → Stands (holds t) a x → Stands (holds t) b y → make K L l a b ≡ result K L task
        → Good K L 0 (result K L task) → (r : Option ℕ) → Joined L t u l x y r → Put f p t u r
    put_joined u l x y a b sa sb made good r j = elim j.how [
      | inl q ↦
          let e : b ≡ spare K (L.type l) a = stands_for_one (holds t) b (spare K (L.type l) a) y sb
          (subst (Stands (holds t) (spare K (L.type l) a)) (sym q.same) spare_here) in
          let there : Put f p t t (Some x) = put_there x (subst (λ d. Stands (holds t) d x) (sym (make_dropped K L l a b e) ∙ made) sa) in
          subst (λ v. Put f p t v r) (sym q.still) (subst (Put f p t t) (sym q.told) there)
      | inr q ↦
          let apart : ¬ (b ≡ spare K (L.type l) a)
          = λ e. q.other (one_handle (holds t) (unshared t) b y (spared (L.type l) x) sb (subst (λ d. Stands (holds t) d (spared (L.type l) x)) (sym e) spare_here)) in
          let e : node l a b ≡ result K L task = sym (make_kept K L l a b apart) ∙ made in
          put_content u (node l a b) (node_at l x y) e (subst (Good K L 0) (sym e) good)
          (λ v k h here. (x, y, here, stands_still k a x sa, stands_still k b y sb))
          (λ h s. s.2 ∙ ap₂ (node_at l) (one_handle (holds t) (unshared t) a s.0 x s.3 sa) (one_handle (holds t) (unshared t) b s.1 y s.4 sb))
          r q.filling
    ]
      where
        spare_here : Stands (holds t) (spare K (L.type l) a) (spared (L.type l) x)
        spare_here = spare_stands t K (sound_zero f p t sound) (L.type l) a x sa

    module _ (u : Places) (h : ℕ) (parts : PartsHeld t) (put : Put f p t u (Some h)) where
      put_all : (d : Diagram) → P d → Held u d
      put_all = all_held u (h, put.1) (λ part q d n. held_still put.0.extends d (parts part q d n))

      -- Work that leaves the store.
      pub worked_plain : Worked K L (model L f p t) (task ∷ []) (model L f p u)
      worked_plain = record { gains = toward_gains K L P f f p p put.0 put_all; still = λ _ k. refl; made = λ k g e. inl e; newest = inl (λ k. refl) }

      -- Work that ends with an offer of the call's own key.
      pub worked_offered : (g : Entries) (key : Key) → shortcut K L task ≡ false → Keyed (model L f p t) task key → Offered f g key h
          → Worked K L (model L f p t) (task ∷ []) (model L g p u)
      worked_offered g key long keyed offer = record {
        gains = gains;
        still = λ short. absurd (false≢true (sym long ∙ short task task (Memᴰ.head refl) (itself refl)));
        made = λ k x e. elim (offer.only k x e) [
          | inl q ↦ inr (subst (λ j. Offering K L after (task ∷ []) j x) (sym q.0) (subst (Offering K L after (task ∷ []) key) (sym q.1) offering))
          | inr old ↦ inl old
        ];
        newest = inr (key, h, offer.newest, offering);
      }
        where
          after : Model
          after = model L g p u

          gains : Gains (model L f p t) after P
          gains = toward_gains K L P f g p p put.0 put_all

          offering : Offering K L after (task ∷ []) key h
          offering = record {
            whole = task;
            asked = Memᴰ.head refl;
            part = task;
            inside = itself refl;
            long = long;
            keyed = keyed_moves (model L f p t) after (gains_moves (model L f p t) after P gains) task key keyed;
            answers = seen_stands L g p u (result K L task) h put.1;
          }

    -- A shortcut.
    pub finished_short : (u : Places) (key : Key) → shortcut K L task ≡ true → PartsHeld t → (r : Option ℕ) → Put f p t u r
        → Finished K L task key (model L f p t) (model L f p u) r
    finished_short u key short parts None put = put
    finished_short u key short parts (Some h) put = record {
      stands = seen_stands L f p u (result K L task) h put.1;
      worked = worked_plain u h parts put;
      stored = λ long. absurd (false≢true (sym long ∙ short));
      hit = λ g long. absurd (false≢true (sym long ∙ short));
    }

-- An entry under a call's key.
module _ {K : Kind} {L : Layout} (m : Model) (task : Task) (key : Key) (h : ℕ) (sound : Sound K L m) (fit : Fit K L 0 task) (keyed : Keyed m task key)
    (found : m.entries key ≡ Some h) where
  its_call : (sound.right key h found).task ≡ task
  its_call = let n = sound.right key h found in keyed_one K L m n.task task key n.fit fit n.keyed keyed

  pub found_stands : StandsFor m (result K L task) h
  found_stands = subst (λ z. StandsFor m (result K L z) h) its_call (sound.right key h found).answers

  -- It answers the call: all that the call needs is in use.
  pub found_answered : BroughtBack K L task key m m h
  found_answered = record {
    stands = found_stands;
    worked = worked_idle m (task ∷ []) sound (λ d n.
        (sound.right key h found).needed d (subst (λ z. Needs K L z d) (Memᴰ.eq_of_singleton n.1 ∙ sym its_call) n.2));
    stored = λ _. found;
    hit = λ g _ e. (same_Some _ _ (sym found ∙ e), refl, λ k. refl);
  }

-- Work inside a call: calls inside it were worked, from a table m to k.
pub record Way (K : Kind) (L : Layout) (task : Task) (tasks : List Task) (m k : Model) : Type 0 where
  pub under : UnderTask K L task tasks
  pub worked : Worked K L m tasks k
  pub sound : Sound K L k

module _ {K : Kind} {L : Layout} (task : Task) where
  pub way_start : (m : Model) → Sound K L m → Way K L task [] m m
  way_start m sound = record { under = λ t q. absurd (Memᴰ.not-nil q); worked = worked_none m sound; sound = sound }

  module _ {A : List Task} {m k : Model} (w : Way K L task A m k) (part : Task) (q : Memᴰ part (smaller K L task)) where
    pub way_step : Lawful K L → Fit K L 0 task → (n : Model) → Worked K L k (part ∷ []) n → Way K L task (part ∷ A) m n
    way_step ok fit n worked = record {
      under = under;
      worked = worked_then part m k n w.worked worked;
      sound = one_worked_sound k n w.sound ok part (inside_fit ok (deeper q (itself refl)) fit) worked;
    }
      where
        under : UnderTask K L task (part ∷ A)
        under t (Memᴰ.head e) = subst (Inside K L task) (sym e) (deeper q (itself refl))
        under t (Memᴰ.tail i) = w.under t i

    pub way_stop : Outnumber k (Needed K L (part ∷ [])) → Outnumber m (Needed K L (task ∷ []))
    way_stop = outnumber_within task part m k w.under (deeper q (itself refl)) w.worked

  -- All smaller calls were worked; the answer is put and offered.
  pub way_end : {A : List Task} {m : Model} (f g : Entries) (p : Phase) (t u : Places) (key : Key) → Way K L task A m (model L f p t)
      → ((part : Task) → Memᴰ part (smaller K L task) → Memᴰ part A) → shortcut K L task ≡ false → Keyed m task key
      → ((x : ℕ) → m.entries key ≡ Some x → ⊥) → (r : Option ℕ) → Put K L task f p t u r → Closed f g key r
      → Finished K L task key m (model L g p u) r
  way_end {m = m} f g p t u key w has long keyed absent None put close =
      outnumber_within task task m (model L f p t) w.under (itself refl) w.worked put
  way_end {A} {m} f g p t u key w has long keyed absent (Some h) put close = record {
    stands = seen_stands L g p u (result K L task) h put.1;
    worked = worked_within task m k (model L g p u) w.under w.worked
        (worked_offered K L task f p t w.sound u h held put g key long (keyed_moves m k (gains_moves m k _ w.worked.gains) task key keyed) close);
    stored = λ _. close.newest;
    hit = λ x _ found. absurd (absent x found);
  }
    where
      k : Model
      k = model L f p t

      held : PartsHeld K L task t
      held part q d n = let r = w.worked.gains.gained d (part, has part q, n) in (r.0, stands_seen L f p t d r.0 r.1)

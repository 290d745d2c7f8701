-- Rows of the collector spare a map that ends, whoever takes their steps or begins one.
use Rattle.std.specs.Prelude.{◌≡◌, ◌≢◌, ℕ, Bool, cond, eqb, List, ◌∷◌, slice_get}
use Rattle.std.proofs.Common.{refl, ap, sym, subst, ◌∙◌, inl, inr}
use Rattle.std.proofs.lemmas.Bool.{cases_eq, eq-eqb, ne_eqb}
use Rattle.many_calls.specs.Given.SeizeWordsMem.{value_at}
use Rattle.many_calls.specs.Given.SeizeLaw.{Effect, With, Nowhere, Deferred, where_is, is_standing, owner_of, is_orphan, is_over}
use Rattle.many_calls.specs.Given.SeizeWorld.{World, Row, Use, Handed, Request, Register', Enter', Leave', LeaveOwned, Refresh, Unregister', Retire, Flush, Defer', Begin, Step, Happens, IsOnto, with_at}
use Rattle.many_calls.proofs.Given.SeizeRuleRows.Effects.{owner_kept}
use Rattle.many_calls.proofs.Given.SeizeAloneHistories.LeftTo.{still_orphan, still_over, still_linked}
use Rattle.many_calls.proofs.Given.SeizeAloneHistories.NotTaken.{IsKept, did, not_taken, kept_value, kept_hand}
use Rattle.many_calls.proofs.Given.SeizeAloneHistories.Onto.{steps_onto}
use Rattle.many_calls.proofs.Given.SeizeAloneHistories.Reached.{Reached}
use Rattle.many_calls.specs.Given.TablesNodes.{deferred_word}
use Rattle.many_calls.specs.Given.TablesDeclared.node.Node.{Node}
use Rattle.many_calls.specs.Given.TablesDeclared.setting.Setting.{Setting}
use Rattle.many_calls.specs.Given.RuleInWorld.{IsHeldBy}
use Rattle.many_calls.proofs.Given.RuleWorld.Hands.{at_cases, hand_kept}
use Rattle.many_calls.specs.Kept.{IsMaking}
use Rattle.many_calls.specs.Together.{CameAbout, HandsOver, IsOfSlots, IsOneStep}
use Rattle.many_maps.proofs.Beside.Endings.Spares.{IsUsedOf, IsOfEnd, IsSpared, SparesEnd, end_own, end_not_held, spares_then}
use Rattle.many_maps.proofs.Beside.Maps.OtherBegins.{cutting_not_making, cut_not_making}
use Rattle.many_calls.proofs.Rows.Behind.{LaySo, deferred_behind, row_back}
use Rattle.many_calls.proofs.Rows.Beside.{making_own}
use Rattle.many_calls.proofs.Rows.Keep.{kept_block}
use Rattle.many_calls.proofs.Together.Came.{came_reached, came_next}

-- a row goes on
module _ {K V : Type 0} (size : ℕ) (w : World (Node K V)) (came : CameAbout size w) (i : ℕ) (w2 : World (Node K V)) (step : Happens deferred_word size (Step i) w w2) (owner root ender : ℕ) where
  reached : Reached deferred_word size w
  reached = came_reached size w came

  spared : (b : ℕ) → IsKept b w → IsSpared w w2 b
  spared b kept = let d = did deferred_word size w reached i w2 step in record {
    value = kept_value deferred_word size w reached i w2 step b kept;
    words = λ field word no is. d.frames.words b field (not_taken deferred_word size w reached i w2 step b kept) no ∙ is;
    hand = kept_hand deferred_word size w reached i w2 step b kept;
    owner = ap (owner_of b) d.logged ∙ owner_kept b d.effects w.log d.one;
    orphan = still_orphan deferred_word size w reached i w2 step b;
    over = still_over deferred_word size w reached i w2 step b;
  }

  pub step_spares_end : SparesEnd w w2 size owner root ender
  step_spares_end = record {
    came = came_next size w w2 (Step i) came step;
    blocks = λ b of. spared b (kept_block w b (inl (end_own w owner ender b of)));
    counter = λ is making. spared owner (kept_block w owner (inl (making_own (w.hand owner) making)));
    links = λ b word left is. still_linked deferred_word size w reached i w2 step b ender left ∙ is;
    behind = λ b x used. row_back deferred_word size x b w w2 reached i step;
    onto = λ b j used on. steps_onto deferred_word size w reached w2 i step j b on;
    root_leads = λ word is. ap (λ l. slice_get l root) (did deferred_word size w reached i w2 step).frames.roots ∙ is;
    root_used = λ is. ap (λ l. slice_get l root) (did deferred_word size w reached i w2 step).frames.used ∙ is;
  }

-- a row begins
module _ {K V : Type 0} (size : ℕ) (w : World (Node K V)) (owner root ender i : ℕ) (row : Row) (uses : ℕ → Use) where
  -- on slots: blocks and what is told of them are as they were
  abbrev begun : World (Node K V)
  begun = record { memory = w.memory; row = with_at w.row i row; uses = uses; hand = w.hand; log = w.log }

  none_onto : ((b : ℕ) → IsOnto b row → ⊥) → (b j : ℕ) → IsOnto b (with_at w.row i row j) → IsOnto b (w.row j)
  none_onto none b j = at_cases (λ (r : Row). IsOnto b r → IsOnto b (w.row j)) w.row i row j (λ e on. absurd (none b on)) (λ ne on. on)

  begun_spares : CameAbout size begun → ((b : ℕ) → IsOnto b row → ⊥) → SparesEnd w begun size owner root ender
  begun_spares came2 none = record {
    came = came2;
    blocks = λ b of. record { value = refl; words = λ field word no is. is; hand = refl; owner = refl; orphan = refl; over = refl };
    counter = λ is making. record { value = refl; words = λ field word no is. is; hand = refl; owner = refl; orphan = refl; over = refl };
    links = λ b word left is. is;
    behind = λ b x used at. (at, refl, refl);
    onto = λ b j used on. none_onto none b j on;
    root_leads = λ word is. is;
    root_used = λ is. is;
  }

  begun_to : (w2 : World (Node K V)) → w2 ≡ begun → CameAbout size w2 → ((b : ℕ) → IsOnto b row → ⊥) → SparesEnd w w2 size owner root ender
  begun_to w2 e came2 none = subst (λ (v : World (Node K V)). SparesEnd w v size owner root ender) (sym e) (begun_spares (subst (CameAbout size) e came2) none)

  -- on a block of another owner that the caller has taken out
  module _ (log : List Effect) (x : ℕ) where
    abbrev handed : World (Node K V)
    handed = record { memory = w.memory; row = with_at w.row i row; uses = uses; hand = with_at w.hand x Handed; log = log }

    module _ (held : IsHeldBy i (w.hand x)) (taken : IsMaking (w.hand x) → ⊥) (placed : (y : ℕ) → y ≢ x → where_is y log ≡ where_is y w.log) (owners : (y : ℕ) → owner_of y log ≡ owner_of y w.log)
        (orphans : (y : ℕ) → is_orphan y log ≡ is_orphan y w.log) (overs : (y : ℕ) → is_over y log ≡ is_over y w.log)
        (behind_other : (b : ℕ) → IsUsedOf w owner b → where_is x log ≡ With b → where_is x w.log ≡ With b) (onto_other : (b : ℕ) → IsUsedOf w owner b → IsOnto b row → ⊥) where
      apart : (b : ℕ) → IsOfEnd w owner ender b → b ≢ x
      apart b of e = end_not_held w owner ender b of i (subst (λ (y : ℕ). IsHeldBy i (w.hand y)) (sym e) held)

      handed_spared : (b : ℕ) → b ≢ x → IsSpared w handed b
      handed_spared b ne = record {
        value = refl;
        words = λ field word no is. is;
        hand = hand_kept w.hand x Handed (w.hand b) b ne refl;
        owner = owners b;
        orphan = orphans b;
        over = overs b;
      }

      lay_so : (b y : ℕ) → IsUsedOf w owner b → LaySo y b w handed
      lay_so b y used at = elim (cases_eq y x) as (λ _. (where_is y w.log ≡ With b) × (owner_of y log ≡ owner_of y w.log) × (value_at w.memory y ≡ value_at w.memory y)) [
        | inl e ↦ (subst (λ (z : ℕ). where_is z w.log ≡ With b) (sym e) (behind_other b used (subst (λ (z : ℕ). where_is z log ≡ With b) e at)), owners y, refl)
        | inr ne ↦ (sym (placed y ne) ∙ at, owners y, refl)
      ]

      handed_spares : CameAbout size handed → SparesEnd w handed size owner root ender
      handed_spares came2 = record {
        came = came2;
        blocks = λ b of. handed_spared b (apart b of);
        counter = λ is making. handed_spared owner (λ e. taken (subst (λ (y : ℕ). IsMaking (w.hand y)) e making));
        links = λ b word left is. is;
        behind = lay_so;
        onto = λ b j used. at_cases (λ (r : Row). IsOnto b r → IsOnto b (w.row j)) w.row i row j (λ e on. absurd (onto_other b used on)) (λ ne on. on);
        root_leads = λ word is. is;
        root_used = λ is. is;
      }

      handed_to : (w2 : World (Node K V)) → w2 ≡ handed → CameAbout size w2 → SparesEnd w w2 size owner root ender
      handed_to w2 e came2 = subst (λ (v : World (Node K V)). SparesEnd w v size owner root ender) (sym e) (handed_spares (subst (CameAbout size) e came2))

module _ {K V : Type 0} (size : ℕ) (w : World (Node K V)) (came : CameAbout size w) (owner root ender i : ℕ) (w2 : World (Node K V)) where
  pub slots_spare_end : (request : Request) → IsOfSlots request → Happens deferred_word size (Begin i request) w w2 → SparesEnd w w2 size owner root ender
  slots_spare_end (Register' enters) of h = begun_to size w owner root ender i _ w.uses w2 h.1 (came_next size w w2 (Begin i (Register' enters)) came h) (λ b on. on)
  slots_spare_end (Enter' t) of h = begun_to size w owner root ender i _ _ w2 h.1.1 (came_next size w w2 (Begin i (Enter' t)) came h) (λ b on. on)
  slots_spare_end (Leave' t) of h = begun_to size w owner root ender i _ _ w2 h.1.1 (came_next size w w2 (Begin i (Leave' t)) came h) (λ b on. on)
  slots_spare_end (LeaveOwned t) of h = begun_to size w owner root ender i _ _ w2 h.1.1 (came_next size w w2 (Begin i (LeaveOwned t)) came h) (λ b on. on)
  slots_spare_end (Refresh t) of h = begun_to size w owner root ender i _ _ w2 h.1.1 (came_next size w w2 (Begin i (Refresh t)) came h) (λ b on. on)
  slots_spare_end (Unregister' t) of h = begun_to size w owner root ender i _ _ w2 h.1.1 (came_next size w w2 (Begin i (Unregister' t)) came h) (λ b on. on)
  slots_spare_end (Flush t) of h = begun_to size w owner root ender i _ _ w2 h.1.1 (came_next size w w2 (Begin i (Flush t)) came h) (λ b on. on)
  slots_spare_end (Retire t b) of h = absurd of
  slots_spare_end (Defer' t b d) of h = absurd of

  -- a row within a call on another map
  module _ (other : Setting) (counters : owner ≢ other.counter) where
    pub hands_spare_end : (request : Request) → HandsOver other i w request → Happens deferred_word size (Begin i request) w w2 → SparesEnd w w2 size owner root ender
    hands_spare_end (Retire t x) hands h =
        handed_to size w owner root ender i _ _ w.log x hands.1 (cutting_not_making (w.hand x) h.1.1.1) (λ y ne. refl) (λ y. refl) (λ y. refl) (λ y. refl) (λ b used at. at) (λ b used on. on)
        w2 h.1.2 (came_next size w w2 (Begin i (Retire t x)) came h)
    hands_spare_end (Defer' t x d) hands h =
        handed_to size w owner root ender i _ _ (Deferred x d ∷ w.log) x hands.1 (cut_not_making i (w.hand x) h.1.2)
        (λ y ne. ap (λ (q : Bool). cond q (cond (is_standing (where_is d w.log)) (With d) Nowhere) (where_is y w.log)) (ne_eqb y x ne)) (λ y. refl) (λ y. refl) (λ y. refl)
        (λ b used at. absurd (not_its b used (deferred_behind (eqb x x) (is_standing (where_is d w.log)) d b (where_is x w.log) (eq-eqb x x refl) at)))
        (λ b used on. not_its b used (sym on))
        w2 h.1.7 (came_next size w w2 (Begin i (Defer' t x d)) came h)
      where
        -- what it is deferred behind is the other map's
        not_its : (b : ℕ) → IsUsedOf w owner b → d ≡ b → ⊥
        not_its b used e = counters (sym used.1 ∙ ap (λ (y : ℕ). owner_of y w.log) (sym e) ∙ hands.2)
    hands_spare_end (Register' enters) hands h = absurd hands
    hands_spare_end (Enter' t) hands h = absurd hands
    hands_spare_end (Leave' t) hands h = absurd hands
    hands_spare_end (LeaveOwned t) hands h = absurd hands
    hands_spare_end (Refresh t) hands h = absurd hands
    hands_spare_end (Unregister' t) hands h = absurd hands
    hands_spare_end (Flush t) hands h = absurd hands

-- a step of a row within a call on another map, which has begun with it, or went on
pub one_step_spares_end : {K V : Type 0} (other : Setting) (w : World (Node K V)) → CameAbout other.batch_size w → (owner root ender i : ℕ) → owner ≢ other.counter
    → (w2 : World (Node K V)) → IsOneStep other i w w2 → SparesEnd w w2 other.batch_size owner root ender
one_step_spares_end other w came owner root ender i counters w2 (inl step) = step_spares_end other.batch_size w came i w2 step owner root ender
one_step_spares_end other w came owner root ender i counters w2 (inr (request, begun, hands, begins, step)) =
    spares_then w begun w2 other.batch_size owner root ender (hands_spare_end other.batch_size w came owner root ender i begun other counters request hands begins)
    (step_spares_end other.batch_size begun (came_next other.batch_size w begun (Begin i request) came begins) i w2 step owner root ender)

-- What a step links its caller has made.
use Rattle.std.specs.Prelude.{◌≡◌, ℕ, Bool, true, cond, Some}
use Rattle.std.proofs.Common.{refl, ap, sym, subst, ◌∙◌, arith}
use Rattle.std.proofs.lemmas.Bool.{eq-eqb}
use Rattle.map_machines.specs.Given.SeizeWordsMem.{Mem, value_at, IsFreeNumber}
use Rattle.seize_rule.specs.Given.SeizeWorld.{World, Hand, Making, with_at}
use Rattle.map_machines.specs.Given.TablesDeclared.node.Node.{Node}
use Rattle.map_rule.specs.Chart.{Chart, put}
use Rattle.map_rule.specs.Rule.{Common}
use Rattle.map_rule.specs.Moves.{Move, Links, Stores, Replaces, Removes, Marks, MarksBlocking, Skips, Unmarks, Puts, Covers, PutsLate, Claims, Reclaims, Counts, GivesUp, Aborts, Promotes, Announces, without, after}
use Rattle.map_rule.specs.Words.{Blocks}
use Rattle.map_rule.specs.InWorld.{IsOut, IsKnownBlock, LinksItsOwn}
use Rattle.map_rule.proofs.Words.BlocksApart.{new_apart}
use Rattle.map_rule.proofs.World.Hands.{at_cases}

-- what this caller had made, and is out then, is a table or a pair of the map
abbrev pub OutsAreKnown : {K : Type 0} → ℕ → (ℕ → Hand) → (ℕ → Hand) → Chart K → Blocks → Type 0
OutsAreKnown caller hand hand2 c2 blocks2 = (b : ℕ) → hand b ≡ Making caller → IsOut (hand2 b) → IsKnownBlock c2 blocks2 b

module _ {K : Type 0} (caller : ℕ) (hand : ℕ → Hand) (c2 : Chart K) (blocks2 : Blocks) where
  -- none comes out
  pub known_same : OutsAreKnown caller hand hand c2 blocks2
  known_same b making out = absurd (subst IsOut making out)

  -- one block more changes hands: where it comes out, it is such a block
  pub known_with : (hand2 : ℕ → Hand) (b : ℕ) (new : Hand) → (hand b ≡ Making caller → IsOut new → IsKnownBlock c2 blocks2 b)
      → OutsAreKnown caller hand hand2 c2 blocks2 → OutsAreKnown caller hand (with_at hand2 b new) c2 blocks2
  known_with hand2 b new known outs x making =
      at_cases (λ (h : Hand). IsOut h → IsKnownBlock c2 blocks2 x) hand2 b new x (λ e out. subst (IsKnownBlock c2 blocks2) (sym e) (known (ap hand (sym e) ∙ making) out)) (λ _ out. outs x making out)

module _ {K V : Type 0} where
  abbrev pub OutsStay : Mem (Node K V) → (ℕ → Hand) → (ℕ → Hand) → Type 0
  OutsStay m hand hand2 = (b : ℕ) (value : Node K V) → value_at m b ≡ Some value → IsOut (hand b) → IsOut (hand2 b)

  pub outs_same : (m : Mem (Node K V)) (hand : ℕ → Hand) → OutsStay m hand hand
  outs_same m hand b value is out = out

  -- a block changes hands, and is linked, or was and is
  pub outs_handed : (m : Mem (Node K V)) (hand : ℕ → Hand) (b : ℕ) (new : Hand) → IsOut new → OutsStay m hand (with_at hand b new)
  outs_handed m hand b new new_out x value is out = at_cases IsOut hand b new x (λ e. new_out) (λ _. out)

  -- a block is made, or one is taken away that its caller has made
  pub outs_made : (m : Mem (Node K V)) (hand : ℕ → Hand) (b : ℕ) (new : Hand) → IsFreeNumber m b → OutsStay m hand (with_at hand b new)
  outs_made m hand b new free x value is out = at_cases IsOut hand b new x (λ e. absurd (new_apart m x b value is free e)) (λ _. out)

  pub outs_dropped : (m : Mem (Node K V)) (hand : ℕ → Hand) (b caller : ℕ) (new : Hand) → hand b ≡ Making caller → OutsStay m hand (with_at hand b new)
  outs_dropped m hand b caller new own x value is out =
      at_cases IsOut hand b new x (λ e. absurd (subst IsOut own (subst (λ (y : ℕ). IsOut (hand y)) e out))) (λ _. out)

  -- where nothing was linked
  pub links_none : (caller : ℕ) (w w2 : World (Node K V)) (c c2 : Chart K) (blocks2 : Blocks) → c2.past ≡ c.past → c2.stored ≡ c.stored → OutsStay w.memory w.hand w2.hand
      → OutsAreKnown caller w.hand w2.hand c2 blocks2 → LinksItsOwn caller w w2 c c2 blocks2
  links_none caller w w2 c c2 blocks2 past stored outs known = record {
    tables = λ t l m. absurd (omega (arith, l, m, past));
    pairs = λ n l m. absurd (omega (arith, l, m, stored));
    outs = outs;
    known = known;
  }

module _ {K : Type 0} (same : K → K → Bool) (spot : ℕ → K → ℕ → ℕ) (incremental : Bool) (c : Chart K) (rule : Common same spot incremental c) where
  unstored : c.current c.stored ≡ true → ⊥
  unstored is = let at = rule.stands c.stored is in let l = (rule.keyed at.0 at.1 c.stored at.2 at.3 at.4).0 in omega (arith, l)

  new_stored : (current : ℕ → Bool) → put current c.stored true ≡ c.current → ⊥
  new_stored current e = unstored (sym (ap (λ (f : ℕ → Bool). f c.stored) e) ∙ ap (λ (q : Bool). cond q true (current c.stored)) (eq-eqb c.stored c.stored refl))

  -- a move after which the map has the same pairs stores none
  pub none_stored : (move : Move K) → (after spot incremental move c).current ≡ c.current → (after spot incremental move c).stored ≡ c.stored
  none_stored (Links len limit) e = refl
  none_stored (Stores t k j) e = absurd (new_stored (without spot incremental (c.place t (spot (c.len t) k j)) c.current) e)
  none_stored (Replaces t i k) e = absurd (new_stored (without spot incremental (c.place t i) c.current) e)
  none_stored (Removes t i) e = refl
  none_stored (Marks caller i) e = refl
  none_stored (MarksBlocking i) e = refl
  none_stored (Skips caller t i) e = refl
  none_stored (Unmarks caller i) e = refl
  none_stored (Puts caller i t k j) e = refl
  none_stored (Covers caller i) e = refl
  none_stored (PutsLate t i n) e = refl
  none_stored (Claims caller t chunk) e = refl
  none_stored (Reclaims t claim) e = refl
  none_stored (Counts caller t number) e = refl
  none_stored (GivesUp caller t) e = refl
  none_stored (Aborts t) e = refl
  none_stored (Promotes t) e = refl
  none_stored (Announces t) e = refl

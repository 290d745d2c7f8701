-- A step of a copier that comes to the claiming of places has seen that some are left: the claim was below the length of the table that is copied.
use Rattle.std.specs.Prelude.{Some, nat_lt}
use Rattle.std.proofs.Common.{◌≡◌, ℕ, ◌^◌, ◌<◌, Bool, true, false, inl, inr, refl, ap, sym, subst, ◌∙◌, arith}
use Rattle.std.proofs.lemmas.Bool.{ltb-true}
use Rattle.seize_model.specs.Given.SeizeWordsMem.{Mem, Took, value_at, word_at}
use Rattle.seize_model.specs.Given.SeizeWordsPlan.{Steps}
use Rattle.seize_model.specs.Given.SeizeWordsDeclared.at.At.TheVariants.{Word}
use Rattle.seize_model.proofs.Given.SeizeWordsOneOwner.Operations.{loaded}
use Rattle.seize_model.proofs.Given.SeizeWordsPlans.{ends_if}
use Rattle.seize_model.specs.Given.SeizeWorld.{World}
use Rattle.map_facts_late.specs.Given.TablesTablePlaces.{at_word}
use Rattle.map_facts_late.specs.Given.TablesDeclared.node.Node.{Node}
use Rattle.map_facts_late.specs.Given.TablesDeclared.setting.Setting.{Setting}
use Rattle.map_facts_late.specs.Given.TablesDeclared.table.Table.{Table}
use Rattle.map_facts_late.specs.Given.TablesDeclared.table_words.TheConstants.{CLAIM}
use Rattle.map_facts_late.specs.Given.ResizeCopier.{plan_at, copier_plan}
use Rattle.map_facts_late.specs.Given.ResizeCopierClaims.{claim_read}
use Rattle.map_facts_late.specs.Given.ResizeCopierStates.{standing}
use Rattle.map_facts_late.specs.Given.ResizeDeclared.copier.Copier.{Copier}
use Rattle.map_facts_late.specs.Given.ResizeDeclared.copier.Copying.{Copying as Point}
use Rattle.map_facts_late.specs.Given.ResizeDeclared.copier.Copying.TheVariants as at
use Rattle.map_facts_late.specs.Given.ResizeDeclared.yielding.Yielding.{Yielding}
use Rattle.map_facts_late.specs.Given.ResizeDeclared.yielding.Yielding.TheVariants.{Goes}
use Rattle.map_facts_late.specs.Given.RuleChart.{Chart}
use Rattle.map_facts_late.specs.Given.RuleInWorld.{IsMapIn}
use Rattle.map_facts_late.specs.Given.RuleWords.{Blocks}
use Rattle.map_facts_late.specs.Given.RuleMaps.{IsTable}
use Rattle.map_facts_late.proofs.Given.RuleWords.TablesSeen.{word_stands, turn_is, len_is}
use Rattle.many_calls.proofs.Claims.Knows.{CopierKnows}
use Rattle.many_calls.proofs.Claims.Copiers.{IsOther, none_left_other, copier_other}

-- its next step looks at the claim
abbrev is_sees : Point → Bool
is_sees at.Sees = true
is_sees _ = false

sees_is : (stands : Point) → is_sees stands ≡ true → stands ≡ at.Sees
sees_is at.Sees e = refl
sees_is _ e = absurd (cc e)

module _ {K V : Type 0} (same : K → K → Bool) (hash : K → ℕ) (w : World (Node K V)) (caller : ℕ) (setting : Setting) (c : Chart K) (blocks : Blocks) (map : IsMapIn same hash setting w c blocks)
    (p : Copier) (knows : CopierKnows w caller setting c blocks p p.stands)
    (m2 : Mem (Node K V)) (end : Copier × Yielding (Node K V) Table) (steps : Steps Took value_at w.memory (copier_plan hash p) m2 end) where
  -- the claim that it has seen, of its target
  pub record HasSeen : Type 0 where
    pub turn : ℕ
    pub target : end.0.target.turn ≡ turn
    pub made : turn < c.past
    pub known : blocks.table_known turn ≡ true
    pub claim : ℕ
    pub shown : word_at m2 (Word (blocks.table turn) CLAIM) ≡ Some claim
    pub few : claim < 2 ^ 48

  -- where places are left, and where none are
  left : (u t found : ℕ) → IsTable c blocks p.source u → IsTable c blocks p.target t → word_at w.memory (at_word p.target CLAIM) ≡ Some found → m2 ≡ w.memory
      → nat_lt found p.source.len ≡ true → end ≡ (standing p at.Claims, Goes) → HasSeen
  left u t found source target there same_memory below e = record {
    turn = t;
    target = ap (λ (x : Copier × Yielding (Node K V) Table). x.0.target.turn) e ∙ turn_is hash w.memory c blocks setting.root map.map.shows p.target t target;
    made = target.made;
    known = target.known;
    claim = found;
    shown = ap (λ (n : Mem (Node K V)). word_at n (Word (blocks.table t) CLAIM)) same_memory
        ∙ ap (word_at w.memory) (sym (word_stands hash w.memory c blocks setting.root map.map.shows p.target t target CLAIM)) ∙ there;
    few =
        let less : found < p.source.len = ltb-true found p.source.len below in
        let len = len_is hash w.memory c blocks setting.root map.map.shows p.source u source in
        let most = (map.map.shows.sized u source.made).most in
        omega (arith, less, len, most);
  }

  seeing : p.stands ≡ at.Sees → end.0.stands ≡ at.Claims → HasSeen
  seeing is claims =
      let d = loaded w.memory (claim_read p) (at_word p.target CLAIM) m2 end (subst (λ (s : Point). Steps Took value_at w.memory (plan_at hash p s) m2 end) is steps) in
      let seen = subst (CopierKnows w caller setting c blocks p) is knows in
      elim (ends_if (value_at w.memory) (nat_lt d.0 p.source.len) _ _ end d.3) as (λ _. HasSeen) [
        | inl (below, e) ↦ left seen.0 seen.1 d.0 seen.2 seen.3 d.1 d.2 below e
        | inr (above, e) ↦ absurd (subst IsOther (ap (λ (x : Copier × Yielding (Node K V) Table). x.0.stands) (sym e) ∙ claims) (none_left_other p))
      ]

  -- it has looked there
  pub sees_few : end.0.stands ≡ at.Claims → HasSeen
  sees_few claims = by (is_sees p.stands) refl
    where
      by : (b : Bool) → is_sees p.stands ≡ b → HasSeen
      by true e = seeing (sees_is p.stands e) claims
      by false e = absurd (subst IsOther claims (copier_other K V hash p w caller setting c blocks w.memory m2 end knows (λ is. absurd (let z = ap is_sees is in cc (z, e))) steps))

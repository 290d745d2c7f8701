-- In blocking mode, whether a copier has found each place claimed: what its steps make of that; and that places stay claimed as long as the copying goes on.
use Rattle.std.specs.Prelude.{if◌then◌else◌, ℕ, ◌+◌, ◌-◌, ◌%◌, ◌/◌, ◌^◌, ◌==◌, nat_lt, cond, eqb, Bool, true, false, Ok, Err, Some}
use Rattle.std.proofs.Common.{◌≡◌, ◌<◌, ◌≤◌, ◌⊎◌, inl, inr, refl, ap, sym, subst, ◌∙◌, arith, eqb-true}
use Rattle.std.proofs.lemmas.Bool.{ltb-false, ne_eqb}
use Rattle.seize_words.specs.OneMemory.Op.{Out, Found, Exchanged}
use Rattle.seize_words.specs.OneMemory.Mem.{Mem, Took, value_at, with_word, word_at}
use Rattle.seize_words.specs.OneMemory.Plan.{Steps, Now}
use Rattle.seize.specs.declared.advance.Advance.{Advance}
use Rattle.seize.specs.declared.advance.Advance.TheVariants as progress
use Rattle.map_machines.specs.Copier.{plan_at, copier_plan}
use Rattle.map_machines.specs.CopierClaims.{chunk, claim_read, claimed, status_read}
use Rattle.map_machines.specs.CopierCounts.{counted}
use Rattle.map_machines.specs.CopierFurther.{replacement_read, remade}
use Rattle.map_machines.specs.CopierMarks.{is_mine, is_awaited, marked}
use Rattle.map_machines.specs.CopierPlaces.{next_try, pair_put, place_read, after_put}
use Rattle.map_machines.specs.CopierPromotes.{promoted, successor_read}
use Rattle.map_machines.specs.CopierStates.{behind, none_left, next_place, place_done, standing}
use Rattle.map_machines.specs.NewTable.{new_table_plan}
use Rattle.map_machines.specs.declared.new_table.NewTable.{NewTable}
use Rattle.map_machines.specs.declared.yielding.Yielding.{Yielding}
use Rattle.map_machines.specs.declared.yielding.Yielding.TheVariants.{Goes, Waits}
use Rattle.map_tables.specs.declared.probe.Probe.{Probe}
use Rattle.map_tables.specs.declared.table_words.TheConstants.{CLAIM}
use Rattle.many_calls.specs.Given.RuleMoves.{Move, Links, Stores, Replaces, Removes, Marks, MarksBlocking, Skips, Unmarks, Puts, Covers, PutsLate, Claims, Reclaims, Counts, GivesUp, Aborts, Promotes, Announces, Allowed, after}
use Rattle.seize.specs.World.{World}
use Rattle.map_tables.specs.Chunks.{is_incremental}
use Rattle.map_tables.specs.declared.node.Node.{Node}
use Rattle.map_tables.specs.declared.setting.Setting.{Setting}
use Rattle.map_machines.specs.declared.copier.Copier.{Copier}
use Rattle.map_machines.specs.declared.copier.Copying.TheVariants as at
use Rattle.many_calls.specs.Given.RuleChart.{Chart}
use Rattle.many_calls.specs.Given.RuleWords.{Blocks}
use Rattle.map_tables.specs.declared.status.TheConstants.Status.{PROMOTED, ABORTED}
use Rattle.many_calls.specs.Given.RuleMaps.{spot_of}
use Rattle.many_calls.specs.Given.RuleRule.{Rule}
use Rattle.map_tables.specs.declared.table.Table.{Table}
use Rattle.map_machines.specs.declared.copier.Copying.{Copying as Point}
use Rattle.map_tables.specs.TablePlaces.{at_word}
use Rattle.seize_words.proofs.OneMemory.OneOwner.Operations.{added, loaded}
use Rattle.seize_words.proofs.OneMemory.Plans.{ends_if}
use Rattle.many_calls.proofs.Given.RuleKeys.Always.{Always, AlwaysOf, always_if, always_plan_as, always_steps}
use Rattle.many_calls.proofs.Claims.Knows.{CopierKnows}
use Rattle.map_measures.specs.Waiters.Blocking.{SpentAt}
use Rattle.map_measures.proofs.Waiters.Reached.{rule}

-- it has found each place claimed nowhere but where it asks, which this does not
abbrev pub IsUnspentAt : Copier → Point → Type 0
IsUnspentAt p at.Over = Unit {0}
IsUnspentAt p _ = p.spent ≡ false

abbrev pub IsUnspent : Copier → Type 0
IsUnspent p = IsUnspentAt p p.stands

pub unspent_at : {K : Type 0} (c : Chart K) (p : Copier) (stands : Point) → IsUnspentAt p stands → SpentAt c p stands
unspent_at c p at.Asks none = λ spent. absurd (cc (spent, none))
unspent_at c p at.Over none = tt
unspent_at c p _ none = none

-- the points at which it looks at no claim
abbrev pub IsBlind : Point → Type 0
IsBlind at.Asks = ⊥
IsBlind at.Sees = ⊥
IsBlind at.Claims = ⊥
IsBlind _ = Unit {0}

-- where it is not spent, it is so wherever it stands
pub anywhere : (p : Copier) (stands : Point) → p.spent ≡ false → IsUnspentAt p stands
anywhere p at.Over none = tt
anywhere p _ none = none

-- of two, where both are so
either : (b : Bool) (x y : Copier) → IsUnspent x → IsUnspent y → IsUnspent (if b then x else y)
either true x y f g = f
either false x y f g = g

-- where it goes on from a point at which it is not spent
module _ (p : Copier) (mode : is_incremental p.setting.mode ≡ false) (none : p.spent ≡ false) where
  behind_unspent : IsUnspent (behind p)
  behind_unspent = either p.whole _ _ mode tt

  next_unspent : IsUnspent (next_place p)
  next_unspent = either (nat_lt p.place (p.end - 1)) _ _ none (either (p.done == 0) _ _ behind_unspent none)

  try_unspent : (word code : ℕ) (table : Table) (probe : Probe) → IsUnspent (next_try p word code table probe)
  try_unspent word code table probe = either (nat_lt probe.len table.limit) _ _ none (either (is_incremental p.setting.mode) _ _ none none)

done_unspent : (p : Copier) → is_incremental p.setting.mode ≡ false → p.spent ≡ false → IsUnspent (place_done p)
done_unspent p mode none = next_unspent (record p { done = (p.done + 1) % 2 ^ 64 }) mode none

module _ (K V : Type 0) (hash : K → ℕ) (p : Copier) where
  abbrev pub Unspent : Copier × Yielding (Node K V) Table → Type 0
  Unspent end = IsUnspent end.0

  -- it asks again, or goes on from there
  abbrev pub AsksOn : Copier × Yielding (Node K V) Table → Type 0
  AsksOn end = (end.0 ≡ p) ⊎ IsUnspent end.0

  asked_on : (out : Out (Node K V)) → Always AsksOn (status_read p out)
  asked_on (Found status) = always_if AsksOn (status == PROMOTED) _ _ (inr tt) (always_if AsksOn (status == ABORTED) _ _ (inr refl) (spent_on p.spent refl))
    where
      spent_on : (b : Bool) → p.spent ≡ b → Always {T = Node K V} AsksOn (if b then Now (p, Waits) else Now (standing p at.Sees, Goes))
      spent_on true is = inl refl
      spent_on false is = inr is
  asked_on _ = inl refl

  module _ (mode : is_incremental p.setting.mode ≡ false) (none : p.spent ≡ false) (here : IsUnspent p) where
    marked_unspent : (out : Out (Node K V)) → Always Unspent (marked hash p out)
    marked_unspent (Found word) =
        always_if Unspent (is_mine p word) _ _ (always_if Unspent (word / 2048 == 0) _ _ (done_unspent p mode none) (λ value. none))
        (always_if Unspent (is_awaited p word) _ _ here (next_unspent p mode none))
    marked_unspent _ = here

    place_unspent : (word code : ℕ) (table : Table) (probe : Probe) (out : Out (Node K V)) → Always Unspent (place_read p word code table probe out)
    place_unspent word code table probe (Found found) = always_if Unspent (found == 0) _ _ none (try_unspent p mode none word code table probe)
    place_unspent word code table probe _ = here

    pair_unspent : (word : ℕ) → IsUnspent (pair_put p word)
    pair_unspent word = either (is_incremental p.setting.mode) _ _ none (done_unspent p mode none)

    put_unspent : (word code : ℕ) (table : Table) (probe : Probe) (out : Out (Node K V)) → Always Unspent (after_put p word code table probe out)
    put_unspent word code table probe (Exchanged (Ok found)) = pair_unspent word
    put_unspent word code table probe (Exchanged (Err found)) = try_unspent p mode none word code table probe
    put_unspent word code table probe _ = here

    replacement_unspent : (out : Out (Node K V)) → Always Unspent (replacement_read p out)
    replacement_unspent (Found link) = always_if Unspent (link == 0) _ _ none (λ value. none)
    replacement_unspent _ = here

    counted_unspent : (out : Out (Node K V)) → Always Unspent (counted p out)
    counted_unspent (Found count) = always_if Unspent ((count + p.done) % 2 ^ 64 == p.source.len) _ _ none (behind_unspent (record p { done = 0 }) mode none)
    counted_unspent _ = here

    promoted_unspent : (out : Out (Node K V)) → Always Unspent (promoted p out)
    promoted_unspent (Exchanged (Ok found)) = none
    promoted_unspent (Exchanged (Err found)) = behind_unspent p mode none
    promoted_unspent _ = here

    successor_unspent : (table : ℕ) (out : Out (Node K V)) → Always Unspent (successor_read p table out)
    successor_unspent table (Found link) = none
    successor_unspent table _ = here

    remade_unspent : (end : NewTable × Advance Table) → Unspent (remade p end)
    remade_unspent (making, progress.Goes) = none
    remade_unspent (making, progress.Waits) = none
    remade_unspent (making, progress.Done table) = none
    remade_unspent (making, progress.Refused fault) = none

  module _ (w : World (Node K V)) (caller : ℕ) (setting : Setting) (c : Chart K) (blocks : Blocks) (mode : is_incremental p.setting.mode ≡ false) (m m2 : Mem (Node K V))
      (end : Copier × Yielding (Node K V) Table) where
    pub blind_unspent : CopierKnows w caller setting c blocks p p.stands → IsBlind p.stands → SpentAt c p p.stands → Steps Took value_at m (copier_plan hash p) m2 end → IsUnspent end.0
    blind_unspent knows blind spent s = by p.stands refl knows blind spent s
      where
        at_point : (stands : Point) → AlwaysOf Unspent (plan_at hash p stands) → Steps Took value_at m (plan_at hash p stands) m2 end → IsUnspent end.0
        at_point stands all s = always_steps Unspent m m2 (plan_at hash p stands) end all s

        here : (stands : Point) → p.stands ≡ stands → IsUnspentAt p stands → IsUnspent p
        here stands is none = subst (λ (q : Point). IsUnspentAt p q) (sym is) none

        by : (stands : Point) → p.stands ≡ stands → CopierKnows w caller setting c blocks p stands → IsBlind stands → SpentAt c p stands → Steps Took value_at m (plan_at hash p stands) m2 end
            → IsUnspent end.0
        by at.Asks is k blind none s = absurd blind
        by at.Sees is k blind none s = absurd blind
        by at.Claims is k blind none s = absurd blind
        by at.Marks is k blind none s = at_point at.Marks (marked_unspent mode none (here at.Marks is none)) s
        by (at.Probes word code table probe) is k blind none s =
            at_point (at.Probes word code table probe) (place_unspent mode none (here (at.Probes word code table probe) is none) word code table probe) s
        by (at.Puts word code table probe) is k blind none s = at_point (at.Puts word code table probe) (put_unspent mode none (here (at.Puts word code table probe) is none) word code table probe) s
        by at.Counts is k blind none s = at_point at.Counts (counted_unspent mode none (here at.Counts is none)) s
        by at.Aborts is k blind none s = at_point at.Aborts (λ out. none) s
        by at.Replaces is k blind none s = at_point at.Replaces (replacement_unspent mode none (here at.Replaces is none)) s
        by (at.Remakes making) is k blind none s =
            at_point (at.Remakes making) (always_plan_as Unspent (remade p) (remade_unspent mode none (here (at.Remakes making) is none)) (new_table_plan making)) s
        by at.Promotes is k blind none s = at_point at.Promotes (promoted_unspent mode none (here at.Promotes is none)) s
        by at.Announces is k blind none s = at_point at.Announces (λ out. none) s
        by (at.Succeeds table) is k blind none s = at_point (at.Succeeds table) (successor_unspent mode none (here (at.Succeeds table) is none) table) s
        by at.Over is k blind none s = at_point at.Over (here at.Over is tt) s
        by (at.Refused fault) is k blind none s = at_point (at.Refused fault) (here (at.Refused fault) is none) s
        by _ is k blind none s = absurd k

    -- where it asks
    pub asks_on : p.stands ≡ at.Asks → Steps Took value_at m (copier_plan hash p) m2 end → AsksOn end
    asks_on is s = always_steps AsksOn m m2 (plan_at hash p at.Asks) end asked_on (subst (λ (q : Point). Steps Took value_at m (plan_at hash p q) m2 end) is s)

    -- where it looks at the claim, or claims places: it found places left, or none
    abbrev pub SeesClaim : Type 0
    SeesClaim = IsUnspent end.0 ⊎ ((claim : ℕ) × (word_at m (at_word p.target CLAIM) ≡ Some claim) × (p.source.len ≤ claim) × (end.0 ≡ none_left p))

    found_none : (claim : ℕ) → word_at m (at_word p.target CLAIM) ≡ Some claim → nat_lt claim p.source.len ≡ false → end ≡ (none_left p, Goes) → SeesClaim
    found_none claim there full is = inr (claim, there, ltb-false claim p.source.len full, ap (λ (x : Copier × Yielding (Node K V) Table). x.0) is)

    pub sees_claim : p.spent ≡ false → p.stands ≡ at.Sees → Steps Took value_at m (copier_plan hash p) m2 end → SeesClaim
    sees_claim none is s =
        let d = loaded m (claim_read p) (at_word p.target CLAIM) m2 end (subst (λ (q : Point). Steps Took value_at m (plan_at hash p q) m2 end) is s) in
        elim (ends_if (value_at m) (nat_lt d.0 p.source.len) _ _ end d.3) as (λ _. SeesClaim) [
          | inl some ↦ inl (subst Unspent (sym some.1) none)
          | inr full ↦ found_none d.0 d.1 full.0 full.1
        ]

    pub claims_claim : p.spent ≡ false → p.stands ≡ at.Claims → Steps Took value_at m (copier_plan hash p) m2 end → SeesClaim
    claims_claim none is s =
        let d = added m (claimed p) (at_word p.target CLAIM) (chunk p) m2 end (subst (λ (q : Point). Steps Took value_at m (plan_at hash p q) m2 end) is s) in
        elim (ends_if (value_at (with_word m (at_word p.target CLAIM) ((d.0 + chunk p) % 2 ^ 64))) (nat_lt d.0 p.source.len) _ _ end d.3) as (λ _. SeesClaim) [
          | inl some ↦ inl (subst Unspent (sym some.1) none)
          | inr full ↦ found_none d.0 d.1 full.0 full.1
        ]

-- places stay claimed for a table behind the root, as long as it stands there
module _ {K : Type 0} (same : K → K → Bool) (hash : K → ℕ) (c : Chart K) (rule : Rule same (spot_of hash) false c) (t : ℕ) (made : t < c.past) (full : c.first < t → c.len c.first ≤ c.claim t) where
  claimed_on : (move : Move K) → Allowed same (spot_of hash) false move c → (after (spot_of hash) false move c).first < t
      → (after (spot_of hash) false move c).len (after (spot_of hash) false move c).first ≤ (after (spot_of hash) false move c).claim t
  claimed_on (Links len limit) allowed behind =
      let root = rule.common.rooted (omega (arith, made)) in
      subst (λ (n : ℕ). n ≤ c.claim t) (sym (ap (λ (b : Bool). cond b len (c.len c.first)) (ne_eqb c.first c.past (λ e. omega (arith, e, root))))) (full behind)
  claimed_on (Claims i u chunk) allowed behind = by (eqb t u) refl (full behind)
    where
      by : (b : Bool) → eqb t u ≡ b → c.len c.first ≤ c.claim t → c.len c.first ≤ cond b (c.claim u + chunk) (c.claim t)
      by true e most = let same_claim : c.claim u ≡ c.claim t = ap c.claim (sym (eqb-true t u e)) in omega (arith, most, same_claim)
      by false e most = most
  claimed_on (Reclaims u claim) allowed behind = absurd (let mode = allowed.0 in cc mode)
  claimed_on (Promotes u) allowed behind =
      absurd (let gave = rule.in_mode.given_up u allowed.0 (rule.in_mode.aborted u allowed.0 (omega (arith, behind, made))) in
      (let counted_there = allowed.2 gave.0 gave.1 in let lost_there = gave.2 in let both = sym counted_there ∙ lost_there in cc both))
  claimed_on (Stores u k j) allowed behind = full behind
  claimed_on (Replaces u i k) allowed behind = full behind
  claimed_on (Removes u i) allowed behind = full behind
  claimed_on (Marks i j) allowed behind = full behind
  claimed_on (MarksBlocking i) allowed behind = full behind
  claimed_on (Skips i u j) allowed behind = full behind
  claimed_on (Unmarks i j) allowed behind = full behind
  claimed_on (Puts i j u k g) allowed behind = full behind
  claimed_on (Covers i j) allowed behind = full behind
  claimed_on (PutsLate u i n) allowed behind = full behind
  claimed_on (Counts i u number) allowed behind = full behind
  claimed_on (GivesUp i u) allowed behind = full behind
  claimed_on (Aborts u) allowed behind = full behind
  claimed_on (Announces u) allowed behind = full behind

  pub stays_claimed : (d : Chart K) (Own : Move K → Type 0) → (d ≡ c) ⊎ ((move : Move K) × Allowed same (spot_of hash) false move c × (d ≡ after (spot_of hash) false move c) × Own move)
      → d.first < t → d.len d.first ≤ d.claim t
  stays_claimed d Own (inl is) behind = subst (λ (x : Chart K). x.len x.first ≤ x.claim t) (sym is) (full (subst (λ (x : Chart K). x.first < t) is behind))
  stays_claimed d Own (inr (move, allowed, is, own)) behind =
      subst (λ (x : Chart K). x.len x.first ≤ x.claim t) (sym is) (claimed_on move allowed (subst (λ (x : Chart K). x.first < t) is behind))

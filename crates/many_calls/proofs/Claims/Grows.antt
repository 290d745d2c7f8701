-- In blocking mode a step of a copier leaves the claim of a table as it is, or adds a chunk to that of its target.
use Rattle.std.specs.Prelude.{Some, IsSome, ◌%◌, cond}
use Rattle.std.proofs.Common.{◌≡◌, ◌≢◌, ℕ, ◌+◌, ◌^◌, ◌<◌, ◌≤◌, Bool, true, false, ◌⊎◌, inl, inr, refl, ap, sym, subst, ◌∙◌, arith}
use Rattle.std.proofs.lemmas.Bool.{cases_eq}
use Rattle.seize_model.specs.Given.SeizeWordsMem.{Mem, Took, value_at, word_at, with_word}
use Rattle.seize_model.specs.Given.SeizeWordsPlan.{Steps}
use Rattle.seize_model.specs.Given.SeizeWordsDeclared.at.At.{At}
use Rattle.seize_model.specs.Given.SeizeWordsDeclared.at.At.TheVariants.{Word}
use Rattle.seize_model.proofs.Given.SeizeWordsOneOwner.AfterWrites.{word_at-with_word}
use Rattle.seize_model.proofs.Given.SeizeWordsOneOwner.Operations.{added}
use Rattle.seize_model.proofs.Given.SeizeMemoryWords.Named.{same_at-refl}
use Rattle.seize_model.specs.Given.SeizeWorld.{World}
use Rattle.map_facts_late.specs.Given.TablesChunks.{chunk_of, is_incremental}
use Rattle.map_facts_late.specs.Given.TablesTablePlaces.{at_word}
use Rattle.map_facts_late.specs.Given.TablesDeclared.node.Node.{Node}
use Rattle.map_facts_late.specs.Given.TablesDeclared.resize_mode.ResizeMode.{ResizeMode}
use Rattle.map_facts_late.specs.Given.TablesDeclared.resize_mode.ResizeMode.TheVariants.{Incremental, Blocking}
use Rattle.map_facts_late.specs.Given.TablesDeclared.setting.Setting.{Setting}
use Rattle.map_facts_late.specs.Given.TablesDeclared.table.Table.{Table}
use Rattle.map_facts_late.specs.Given.TablesDeclared.table_words.TheConstants.{CLAIM}
use Rattle.map_facts_late.specs.Given.ResizeCopier.{plan_at, copier_plan}
use Rattle.map_facts_late.specs.Given.ResizeCopierClaims.{chunk, claimed}
use Rattle.map_facts_late.specs.Given.ResizeDeclared.copier.Copier.{Copier}
use Rattle.map_facts_late.specs.Given.ResizeDeclared.copier.Copying.{Copying as Point}
use Rattle.map_facts_late.specs.Given.ResizeDeclared.copier.Copying.TheVariants as at
use Rattle.map_facts_late.specs.Given.ResizeDeclared.yielding.Yielding.{Yielding}
use Rattle.map_facts_late.specs.Given.RuleChart.{Chart}
use Rattle.map_facts_late.specs.Given.RuleInWorld.{IsMapIn}
use Rattle.map_facts_late.specs.Given.RuleWords.{Blocks}
use Rattle.map_facts_late.specs.Given.RuleMaps.{IsTable}
use Rattle.map_facts_late.proofs.Given.RuleWords.TablesSeen.{word_stands, turn_is}
use Rattle.map_facts_late.proofs.Given.RuleSpared.{PlanSpares}
use Rattle.many_calls.proofs.Claims.Knows.{CopierKnows}
use Rattle.many_calls.proofs.Claims.Writes.{claim_word, copier_spares}
use Rattle.seize_model.proofs.Given.General.{some_is as is_some_of}

-- a chunk, where pairs move in blocking mode
chunk_small : (mode : ResizeMode) (len : ℕ) → is_incremental mode ≡ false → chunk_of mode len ≤ 4096
chunk_small (Incremental chunk) len blocking = absurd (cc blocking)
chunk_small Blocking len blocking = omega arith

grown_by : (claim found chunk claim2 : ℕ) → found ≡ claim → claim2 ≡ (found + chunk) % 2 ^ 64 → chunk ≤ 4096 → claim2 ≤ claim + 4096
grown_by claim found chunk claim2 same is few = omega (arith, same, is, few)

-- what was written is there
written : {T : Type 0} (m : Mem T) (at : At) (new : ℕ) → IsSome (word_at m at) → word_at (with_word m at new) at ≡ Some new
written m at new some = word_at-with_word m at new at some ∙ ap (λ (z : Bool). cond z (Some new) (word_at m at)) (same_at-refl at)

-- its next step claims
abbrev is_claims : Point → Bool
is_claims at.Claims = true
is_claims _ = false

claims_is : (stands : Point) → is_claims stands ≡ true → stands ≡ at.Claims
claims_is at.Claims e = refl
claims_is _ e = absurd (cc e)

module _ {K V : Type 0} (same : K → K → Bool) (hash : K → ℕ) (w : World (Node K V)) (caller : ℕ) (setting : Setting) (c : Chart K) (blocks : Blocks) (map : IsMapIn same hash setting w c blocks)
    (p : Copier) (knows : CopierKnows w caller setting c blocks p p.stands) (blocking : is_incremental p.setting.mode ≡ false)
    (m2 : Mem (Node K V)) (end : Copier × Yielding (Node K V) Table) (steps : Steps Took value_at w.memory (copier_plan hash p) m2 end) (t : ℕ) (made : t < c.past) (known : blocks.table_known t ≡ true) where
  abbrev pub claim_at : At
  claim_at = claim_word same hash w caller setting c blocks map t made known

  before : word_at w.memory claim_at ≡ Some (c.claim t)
  before = (map.map.shows.tables t made known).claim

  -- its target is this table
  target_word : (u : ℕ) × IsTable c blocks p.target u → p.target.turn ≡ t → at_word p.target CLAIM ≡ claim_at
  target_word (u, entered) turn =
      word_stands hash w.memory c blocks setting.root map.map.shows p.target u entered CLAIM
      ∙ ap (λ (v : ℕ). Word (blocks.table v) CLAIM) (sym (turn_is hash w.memory c blocks setting.root map.map.shows p.target u entered) ∙ turn)

  -- and the chunk is added there
  added_to : (found claim2 : ℕ) → word_at w.memory (at_word p.target CLAIM) ≡ Some found → m2 ≡ with_word w.memory (at_word p.target CLAIM) ((found + chunk p) % 2 ^ 64)
      → at_word p.target CLAIM ≡ claim_at → word_at m2 claim_at ≡ Some claim2 → claim2 ≤ c.claim t + 4096
  added_to found claim2 is m2_is here now = grown_by (c.claim t) found (chunk p) claim2 (cc (is, there)) (cc (now, after_is)) (chunk_small p.setting.mode p.source.len blocking)
    where
      there : word_at w.memory (at_word p.target CLAIM) ≡ Some (c.claim t)
      there = ap (word_at w.memory) here ∙ before

      after_is : word_at m2 claim_at ≡ Some ((found + chunk p) % 2 ^ 64)
      after_is = ap (word_at m2) (sym here) ∙ ap (λ (n : Mem (Node K V)). word_at n (at_word p.target CLAIM)) m2_is
          ∙ written w.memory (at_word p.target CLAIM) ((found + chunk p) % 2 ^ 64) (is_some_of _ _ there)

  grown : (claim2 : ℕ) → word_at m2 claim_at ≡ Some claim2 → p.stands ≡ at.Claims → p.target.turn ≡ t → claim2 ≤ c.claim t + 4096
  grown claim2 now is turn =
      let d = added w.memory (claimed p) (at_word p.target CLAIM) (chunk p) m2 end (subst (λ (s : Point). Steps Took value_at w.memory (plan_at hash p s) m2 end) is steps) in
      added_to d.0 claim2 d.1 d.2 (target_word (subst (CopierKnows w caller setting c blocks p) is knows) turn) now

  -- the claim is as it was, or it has grown
  pub claim_grows : (PlanSpares claim_at (copier_plan {V = V} hash p) → word_at m2 claim_at ≡ Some (c.claim t)) → (claim2 : ℕ) → word_at m2 claim_at ≡ Some claim2
      → (claim2 ≡ c.claim t) ⊎ ((p.stands ≡ at.Claims) × (p.target.turn ≡ t) × (claim2 ≤ c.claim t + 4096))
  claim_grows kept claim2 now = by (is_claims p.stands) refl (cases_eq p.target.turn t)
    where
      stays : (p.stands ≡ at.Claims → p.target.turn ≢ t) → claim2 ≡ c.claim t
      stays other = let old = kept (copier_spares same hash w caller setting c blocks map t made known p knows other) in cc (old, now)

      by : (b : Bool) → is_claims p.stands ≡ b → (p.target.turn ≡ t) ⊎ (p.target.turn ≢ t) → (claim2 ≡ c.claim t) ⊎ ((p.stands ≡ at.Claims) × (p.target.turn ≡ t) × (claim2 ≤ c.claim t + 4096))
      by true e (inl turn) = let is = claims_is p.stands e in inr (is, turn, grown claim2 now is turn)
      by b e (inr other) = inl (stays (λ is. other))
      by false e turn = inl (stays (λ is. absurd (let yes = ap is_claims is in cc (yes, e))))

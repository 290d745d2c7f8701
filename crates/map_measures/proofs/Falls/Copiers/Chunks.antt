-- In blocking mode, a copier claims a chunk: fewer places are left to be claimed, or it has found that none is.
use Rattle.std.specs.Prelude.{◌+◌, ◌%◌, ◌&&◌, nat_lt, if◌then◌else◌}
use Rattle.std.proofs.Common.{◌≡◌, ℕ, ◌-◌, ◌^◌, ◌<◌, ◌≤◌, Bool, true, false, cond, eqb, Some, inl, inr, refl, ap, sym, ◌∙◌, arith}
use Rattle.std.proofs.lemmas.Bool.{eq-eqb, ltb-true}
use Rattle.seize_words.specs.declared.at.At.{At}
use Rattle.seize_words.specs.declared.at.At.TheVariants.{Word}
use Rattle.seize_words.specs.OneMemory.Mem.{Mem, Took, value_at, word_at, with_word}
use Rattle.seize_words.specs.OneMemory.Plan.{Ends, Steps}
use Rattle.seize_words.proofs.OneMemory.OneOwner.AfterWrites.{word_at-with_word}
use Rattle.seize_words.proofs.OneMemory.OneOwner.Operations.{added}
use Rattle.map_tables.specs.Chunks.{is_incremental, chunk_of}
use Rattle.map_tables.specs.TablePlaces.{at_word}
use Rattle.map_tables.specs.declared.node.Node.{Node}
use Rattle.map_tables.specs.declared.resize_mode.ResizeMode.{ResizeMode}
use Rattle.map_tables.specs.declared.resize_mode.ResizeMode.TheVariants.{Incremental, Blocking}
use Rattle.map_tables.specs.declared.setting.Setting.{Setting}
use Rattle.map_tables.specs.declared.table.Table.{Table}
use Rattle.map_tables.specs.declared.table_words.TheConstants.{CLAIM}
use Rattle.map_machines.specs.CopierStates.{none_left}
use Rattle.map_machines.specs.CopierClaims.{claims, claimed, chunk, range_claimed, to}
use Rattle.map_machines.specs.declared.yielding.Yielding.{Yielding}
use Rattle.map_machines.specs.declared.yielding.Yielding.TheVariants.{Goes}
use Rattle.map_machines.specs.declared.copier.Copier.{Copier}
use Rattle.map_machines.specs.declared.copier.Copying.{Copying as Point}
use Rattle.map_machines.specs.declared.copier.Copying.TheVariants as at
use Rattle.many_calls.specs.Given.RuleChart.{Chart}
use Rattle.many_calls.specs.Given.RuleMaps.{IsTable}
use Rattle.many_calls.specs.Given.RuleWords.{Blocks}
use Rattle.many_calls.proofs.Given.RuleWords.TablesSeen.{claim_there, word_stands}
use Rattle.map_measures.specs.Falls.CopiesBlocking.{number_at, number_of_copier_blocking, targets}
use Rattle.map_measures.proofs.Falls.Onward.{Onward}
use Rattle.map_measures.proofs.Falls.Copiers.Claims.{claim_is}
use Rattle.map_measures.proofs.Falls.Copiers.CopierOn.{CopierOn, plain, past_word}
use Rattle.map_measures.proofs.Falls.Copiers.StagesBlocking.{IsLower, none_left_below}
use Rattle.seize_words.proofs.General.{some_is as is_some_of}

module _ {K V : Type 0} (same : K → K → Bool) (hash : K → ℕ) (setting : Setting) (m : Mem (Node K V)) (c : Chart K) (blocks : Blocks) (m2 : Mem (Node K V)) (c2 : Chart K) (blocks2 : Blocks)
    (on : Onward same hash setting m c blocks m2 c2 blocks2) (p : Copier) where
  -- what is to be shown of a step from there
  abbrev On : Point → Copier × Yielding (Node K V) Table → Type 0
  On stands end = CopierOn c.past c2.past (number_at c blocks p) (number_of_copier_blocking c2 blocks2) p stands end

  leads : (stands : Point) (end : Copier × Yielding (Node K V) Table) (q : Copier) → end ≡ (q, Goes) → c2.past ≡ c.past → IsLower c2 blocks2 (number_at c blocks p stands) q → On stands end
  leads stands end q is past lower = plain c.past c2.past (number_at c blocks p) (number_of_copier_blocking c2 blocks2) p stands end q is past lower

  abbrev tables : ℕ
  tables = targets c blocks p

  same_tables : c2.past ≡ c.past → targets c2 blocks2 p ≡ tables
  same_tables past = ap (λ x. x - p.target.turn) past

  module _ (end : Copier × Yielding (Node K V) Table) (t : ℕ) (target : IsTable c blocks p.target t) where
    -- a chunk is claimed
    module _ (mode : is_incremental p.setting.mode ≡ false) (u : ℕ) (source : IsTable c blocks p.source u) where
      some_chunk : (x : ResizeMode) → is_incremental x ≡ false → (0 < chunk_of x p.source.len) × (chunk_of x p.source.len ≤ 4096)
      some_chunk (Incremental n) e = absurd (cc e)
      some_chunk Blocking e =
          let len = ap (λ (x : Table). x.len) source.is in let some = (on.map.rule.common.lens u source.made).0 in (omega (arith, len, some), omega arith)

      low : p.source.len ≤ 2 ^ 48
      low = let len = ap (λ (x : Table). x.len) source.is in let most = (on.map.shows.sized u source.made).most in omega (arith, len, most)

      pub on_claims : Steps Took value_at m (claims p) m2 end → On at.Claims end
      on_claims s =
          let l = added m (claimed p) (at_word p.target CLAIM) (chunk p) m2 end s in
          by (with_word m (at_word p.target CLAIM) ((l.0 + chunk p) % 2 ^ 64)) l.0 l.1 l.2 (nat_lt l.0 p.source.len) refl
          (past_word same hash setting m c blocks m2 c2 blocks2 on p.target CLAIM _ l.2 (is_some_of _ l.0 l.1) (λ e. absurd (omega (arith, e)))) l.3
        where
          by : (n : Mem (Node K V)) (claim : ℕ) → word_at m (at_word p.target CLAIM) ≡ Some claim → m2 ≡ with_word m (at_word p.target CLAIM) ((claim + chunk p) % 2 ^ 64)
              → (b : Bool) → nat_lt claim p.source.len ≡ b → c2.past ≡ c.past
              → Ends (value_at n) (if b then to (range_claimed p claim) else to (none_left p)) end → On at.Claims end
          by n claim read wrote true few past e =
              leads at.Claims end (range_claimed p claim) e past (refl, inr (same_tables past, inr (refl, inr (refl, inl fewer))))
            where
              claim_before : claim ≡ c.claim p.target.turn
              claim_before = let there = claim_there hash m c blocks setting.root on.map.shows p.target t target in let turn = ap (λ (x : Table). c.claim x.turn) target.is in cc (read, there, turn)

              word_is : at_word p.target CLAIM ≡ Word (blocks.table t) CLAIM
              word_is = word_stands hash m c blocks setting.root on.map.shows p.target t target CLAIM

              there : (new : ℕ) (a : At) → at_word p.target CLAIM ≡ a → a ≡ Word (blocks.table t) CLAIM → m2 ≡ with_word m (at_word p.target CLAIM) new → word_at m2 (Word (blocks.table t) CLAIM) ≡ Some new
              there new a first second is =
                  ap (λ x. word_at x (Word (blocks.table t) CLAIM)) (is ∙ ap (λ x. with_word m x new) word_is)
                  ∙ word_at-with_word m (Word (blocks.table t) CLAIM) new (Word (blocks.table t) CLAIM) (is_some_of _ claim (ap (word_at m) (sym word_is) ∙ read))
                  ∙ ap (λ q. cond (q && eqb CLAIM CLAIM) (Some new) (word_at m (Word (blocks.table t) CLAIM))) (eq-eqb (blocks.table t) (blocks.table t) refl)

              claim_after : c2.claim p.target.turn ≡ (claim + chunk p) % 2 ^ 64
              claim_after = claim_is same hash setting m c blocks m2 c2 blocks2 on p.target t target _ (there _ (Word (blocks.table t) CLAIM) word_is refl wrote)

              fewer : p.source.len - c2.claim p.target.turn < p.source.len - c.claim p.target.turn
              fewer =
                  let l = ltb-true claim p.source.len few in
                  let some = some_chunk p.setting.mode mode in
                  let most = low in
                  by_chunk (chunk p) some.0 some.1 claim_after l most
                where
                  by_chunk : (x : ℕ) → 0 < x → x ≤ 4096 → c2.claim p.target.turn ≡ (claim + x) % 2 ^ 64 → claim < p.source.len → p.source.len ≤ 2 ^ 48
                      → p.source.len - c2.claim p.target.turn < p.source.len - c.claim p.target.turn
                  by_chunk x some few is l most = omega (arith, some, few, is, l, most, claim_before)
          by n claim read wrote false few past e = leads at.Claims end (none_left p) e past (none_left_below c2 blocks2 p tables _ (same_tables past) refl _)

-- Which steps of a copier leave the last table, and the claim of its target, as they were.
use Rattle.std.specs.Prelude.{◌+◌, ◌/◌, ◌%◌, IsSome, Bool}
use Rattle.std.proofs.Common.{◌≡◌, ◌≢◌, ℕ, ◌^◌, ◌<◌, Some, ap, sym, ◌∙◌, arith}
use Rattle.seize_words.specs.declared.at.At.TheVariants.{Root, Word}
use Rattle.seize_words.specs.OneMemory.Mem.{Mem, word_at, with_word}
use Rattle.seize_words.proofs.OneMemory.OneOwner.AfterWrites.{word_at-with_word}
use Rattle.map_tables.specs.TablePlaces.{at_place, at_word}
use Rattle.map_tables.specs.declared.node.Node.{Node}
use Rattle.map_tables.specs.declared.setting.Setting.{Setting}
use Rattle.map_tables.specs.declared.table.Table.{Table}
use Rattle.map_tables.specs.declared.table_words.TheConstants.{NEXT, CLAIM, PLACES}
use Rattle.many_calls.specs.Given.RuleChart.{Chart}
use Rattle.many_calls.specs.Given.RuleMaps.{IsTable}
use Rattle.many_calls.specs.Given.RuleWords.{Blocks}
use Rattle.map_measures.proofs.Falls.Onward.{Onward, claim_on}
use Rattle.map_measures.proofs.Falls.Kept.{other_word}
use Rattle.map_measures.proofs.Falls.Copiers.CopierOn.{past_still, past_word, past_place, past_root}

module _ {K V : Type 0} (same : K → K → Bool) (hash : K → ℕ) (setting : Setting) (m : Mem (Node K V)) (c : Chart K) (blocks : Blocks) (m2 : Mem (Node K V)) (c2 : Chart K) (blocks2 : Blocks)
    (on : Onward same hash setting m c blocks m2 c2 blocks2) (target : Table) (t : ℕ) (is_target : IsTable c blocks target t) where
  -- no table is linked, and none of its places is claimed
  abbrev pub Same : Type 0
  Same = (c2.past ≡ c.past) × (c2.claim target.turn ≡ c.claim target.turn)

  turn : target.turn ≡ t
  turn = ap (λ (x : Table). x.turn) is_target.is

  -- the claim that is found after the step
  pub claim_is : (claim : ℕ) → word_at m2 (Word (blocks.table t) CLAIM) ≡ Some claim → c2.claim target.turn ≡ claim
  claim_is claim read = ap c2.claim turn ∙ claim_on same hash setting m c blocks m2 c2 blocks2 on t claim is_target.made is_target.known read

  kept : word_at m2 (Word (blocks.table t) CLAIM) ≡ word_at m (Word (blocks.table t) CLAIM) → c2.claim target.turn ≡ c.claim target.turn
  kept keeps = claim_is (c.claim t) (keeps ∙ (on.map.shows.tables t is_target.made is_target.known).claim) ∙ ap c.claim (sym turn)

  pub same_still : m2 ≡ m → Same
  same_still is = (past_still same hash setting m c blocks m2 c2 blocks2 on is, kept (ap (λ x. word_at x (Word (blocks.table t) CLAIM)) is))

  pub same_word : (table : Table) (number w : ℕ) → m2 ≡ with_word m (at_word table number) w → IsSome (word_at m (at_word table number)) → number ≢ NEXT → CLAIM ≢ number → Same
  same_word table number w is some other apart = (
    past_word same hash setting m c blocks m2 c2 blocks2 on table number w is some other,
    kept (ap (λ x. word_at x (Word (blocks.table t) CLAIM)) is ∙ other_word m (table.link / 2048) number (blocks.table t) CLAIM w some apart),
  )

  pub same_place : (table : Table) (place w : ℕ) → m2 ≡ with_word m (at_place table place) w → IsSome (word_at m (at_place table place)) → place < 2 ^ 48 → Same
  same_place table place w is some low = (
    past_place same hash setting m c blocks m2 c2 blocks2 on table place w is some low,
    kept (ap (λ x. word_at x (Word (blocks.table t) CLAIM)) is
        ∙ other_word m (table.link / 2048) ((place + PLACES) % 2 ^ 64) (blocks.table t) CLAIM w some (λ e. omega (arith, e, low))),
  )

  pub same_root : (r w : ℕ) → m2 ≡ with_word m (Root r) w → IsSome (word_at m (Root r)) → Same
  same_root r w is some = (
    past_root same hash setting m c blocks m2 c2 blocks2 on r w is some (let made = is_target.made in omega (arith, made)),
    kept (ap (λ x. word_at x (Word (blocks.table t) CLAIM)) is ∙ word_at-with_word m (Root r) w (Word (blocks.table t) CLAIM) some),
  )

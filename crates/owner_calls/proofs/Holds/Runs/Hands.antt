-- A step of a refresh, or of a retirement, that takes a block away hands its value out.
use Rattle.std.specs.Prelude.{◌≡◌, ℕ, ◌⊎◌, Some, None}
use Rattle.std.proofs.Common.{refl, sym, ◌∙◌, ap, inl, inr}
use Rattle.seize_words.specs.OneMemory.Mem.{Mem, Can, Took, value_at, with_block}
use Rattle.seize_words.specs.OneMemory.Plan.{May, Steps}
use Rattle.seize_words.specs.OneMemory.Word.{block_in}
use Rattle.seize_words.proofs.OneMemory.OneOwner.Operations.{taken}
use Rattle.seize_words.proofs.OneMemory.Plans.{may_as}
use Rattle.seize.specs.Leave as leaves
use Rattle.seize.specs.Settle.{settle_plan, given_back}
use Rattle.seize.specs.Settle as settles
use Rattle.seize.specs.declared.rows.leave.Leave.{Leave}
use Rattle.seize.specs.declared.rows.leave.Leaving.{Leaving}
use Rattle.seize.specs.declared.rows.leave.Leaving.TheVariants as leaving
use Rattle.seize.specs.declared.rows.settle.Settle.{Settle}
use Rattle.seize.specs.declared.rows.settle.Settled.{Settled}
use Rattle.seize.specs.declared.rows.settle.Settled.TheVariants as settled
use Rattle.seize.specs.declared.rows.settle.Settling.{Settling}
use Rattle.seize.specs.declared.rows.settle.Settling.TheVariants as settling
use Rattle.map_straight.proofs.Given.SeizeRuleRows.Leaving.{steps_back}
use Rattle.map_tables.specs.Nodes.{deferred_word}
use Rattle.map_tables.specs.declared.node.Node.{Node}
use Rattle.map_tables.specs.declared.node.Node.TheVariants as node
use Rattle.owner_whole.proofs.Given.PointsValues.Kept.{SameValues, IsPlainStep, plain_keeps}
use Rattle.owner_whole.proofs.Given.PointsValues.Left.{leaves_taken}
use Rattle.owner_calls.specs.Holds.Came.{StandsAt, HandsOut}
use Rattle.owner_calls.specs.Holds.Promises.{RowsHandOut}

module _ {K V : Type 0} (m m2 : Mem (Node K V)) where
  same_hand : (told : Settled (Node K V)) → SameValues m m2 → HandsOut m m2 told
  same_hand told same b x there = inl (same b ∙ there)

  -- a block is taken away, and its value is told
  module _ (b : ℕ) (value : Node K V) (there : value_at m b ≡ Some value) (is : m2 ≡ with_block m b None) where
    abbrev Its : ℕ → Type 0
    Its k = k ≡ b

    abbrev Nobody : ℕ → Type 0
    Nobody k = ⊥

    its_value : (x : K × V) → Some value ≡ Some (node.Pair x.0 x.1) → value ≡ node.Pair x.0 x.1
    its_value x e = cc e

    taken_hand : (told : Settled (Node K V)) → told ≡ settled.Gave value → HandsOut m m2 told
    taken_hand told gave k x stands =
        elim ((leaves_taken m m2 Its Nobody Nobody b value there is refl (λ j its. its) (λ j void. void)).stay k (node.Pair x.0 x.1) stands) as (λ _. StandsAt m2 k x ⊎ (told ≡ settled.Gave (node.Pair x.0 x.1))) [
          | inl still ↦ inl still
          | inr same ↦ inr (gave ∙ ap (λ (v : Node K V). settled.Gave v) (its_value x (sym there ∙ ap (value_at m) (sym same) ∙ stands)))
        ]

  module _ (c : Settle) (e : Settle × Settled (Node K V)) where
    plainly : (stands : Settling) → IsPlainStep (settles.plan_at (deferred_word {K = K} {V = V}) c stands) → May Can Took value_at m (settles.plan_at (deferred_word {K = K} {V = V}) c stands)
        → Steps Took value_at m (settles.plan_at (deferred_word {K = K} {V = V}) c stands) m2 e → HandsOut m m2 e.1
    plainly stands plain may s = same_hand e.1 (plain_keeps m m2 (settles.plan_at (deferred_word {K = K} {V = V}) c stands) e plain may s)

    settle_hands : (stands : Settling) → May Can Took value_at m (settles.plan_at (deferred_word {K = K} {V = V}) c stands) → Steps Took value_at m (settles.plan_at (deferred_word {K = K} {V = V}) c stands) m2 e → HandsOut m m2 e.1
    settle_hands (settling.Takes next) may s =
        let d = taken m (given_back c next) (block_in c.reclaiming) m2 e s in taken_hand (block_in c.reclaiming) d.0 d.1 d.2 e.1 (ap (λ (x : Settle × Settled (Node K V)). x.1) d.3)
    settle_hands settling.Sees may s = plainly settling.Sees tt may s
    settle_hands settling.Holds may s = plainly settling.Holds tt may s
    settle_hands settling.Pops may s = plainly settling.Pops tt may s
    settle_hands (settling.Firsts block) may s = plainly (settling.Firsts block) tt may s
    settle_hands (settling.Batches block) may s = plainly (settling.Batches block) tt may s
    settle_hands (settling.Ends block) may s = plainly (settling.Ends block) tt may s
    settle_hands (settling.Appends block) may s = plainly (settling.Appends block) tt may s
    settle_hands (settling.Counts block) may s = plainly (settling.Counts block) tt may s
    settle_hands (settling.Scans slot block marks) may s = plainly (settling.Scans slot block marks) tt may s
    settle_hands (settling.Marks slot block marks) may s = plainly (settling.Marks slot block marks) tt may s
    settle_hands (settling.Marked slot block marks) may s = plainly (settling.Marked slot block marks) tt may s
    settle_hands (settling.Closes marks) may s = plainly (settling.Closes marks) tt may s
    settle_hands (settling.Reads block left pushed) may s = plainly (settling.Reads block left pushed) tt may s
    settle_hands (settling.Links block left pushed slot head) may s = plainly (settling.Links block left pushed slot head) tt may s
    settle_hands (settling.Pushes block left pushed slot head) may s = plainly (settling.Pushes block left pushed slot head) tt may s
    settle_hands (settling.Pushed block left pushed) may s = plainly (settling.Pushed block left pushed) tt may s
    settle_hands (settling.Sums pushed) may s = plainly (settling.Sums pushed) tt may s
    settle_hands settling.Nexts may s = plainly settling.Nexts tt may s
    settle_hands (settling.Drains next word) may s = plainly (settling.Drains next word) tt may s
    settle_hands (settling.Joins next more) may s = plainly (settling.Joins next more) tt may s
    settle_hands (settling.Tails next) may s = plainly (settling.Tails next) tt may s
    settle_hands settling.Puts may s = plainly settling.Puts tt may s
    settle_hands settling.Lists may s = plainly settling.Lists tt may s
    settle_hands (settling.Owns next) may s = plainly (settling.Owns next) tt may s
    settle_hands (settling.Downs next batch) may s = plainly (settling.Downs next batch) tt may s
    settle_hands settling.Gives may s = plainly settling.Gives tt may s
    settle_hands settling.Over may s = plainly settling.Over tt may s

  -- what a retirement within a refresh hands out, the refresh does
  module _ (c : Leave) where
    told_on : (e : Settle × Settled (Node K V)) (value : Node K V) → e.1 ≡ settled.Gave value → (leaves.settled c e).1 ≡ settled.Gave value
    told_on (s, settled.Goes) value is = absurd (cc is)
    told_on (s, settled.Waits) value is = absurd (cc is)
    told_on (s, settled.Gave given) value is = is
    told_on (s, settled.Done) value is = absurd (cc is)

    leave_hands : (e : Leave × Settled (Node K V)) (stands : Leaving) → May Can Took value_at m (leaves.plan_at (deferred_word {K = K} {V = V}) c stands) → Steps Took value_at m (leaves.plan_at (deferred_word {K = K} {V = V}) c stands) m2 e → HandsOut m m2 e.1
    leave_hands e leaving.Swaps may s = same_hand e.1 (plain_keeps m m2 (leaves.plan_at (deferred_word {K = K} {V = V}) c leaving.Swaps) e tt may s)
    leave_hands e (leaving.Settles settle) may s =
        let d = steps_back (leaves.settled c) m m2 (settle_plan (deferred_word {K = K} {V = V}) settle) e s in
        let hands = settle_hands settle d.0 settle.stands (may_as (leaves.settled c) Can Took value_at m (settle_plan (deferred_word {K = K} {V = V}) settle) may) d.1 in
        λ b x there. elim (hands b x there) as (λ _. StandsAt m2 b x ⊎ (e.1 ≡ settled.Gave (node.Pair x.0 x.1))) [
          | inl still ↦ inl still
          | inr gave ↦ inr (ap (λ (y : Leave × Settled (Node K V)). y.1) d.2 ∙ told_on d.0 (node.Pair x.0 x.1) gave)
        ]
    leave_hands e leaving.Frees may s = same_hand e.1 (plain_keeps m m2 (leaves.plan_at (deferred_word {K = K} {V = V}) c leaving.Frees) e tt may s)
    leave_hands e leaving.Over may s = same_hand e.1 (plain_keeps m m2 (leaves.plan_at (deferred_word {K = K} {V = V}) c leaving.Over) e tt may s)

pub rows_hand_out : (K V : Type 0) → RowsHandOut K V
rows_hand_out K V m m2 told = (λ c c2 may s. leave_hands m m2 c (c2, told) c.stands may s, λ c c2 may s. settle_hands m m2 c (c2, told) c.stands may s)

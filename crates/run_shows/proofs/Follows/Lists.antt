-- What users do leaves the word of a linked table that holds its list.
use Rattle.std.specs.Prelude.{◌≡◌, ◌≢◌, ℕ, ◌+◌, ◌^◌, ◌%◌, Bool, true, false, bit_or, List, [], ◌∷◌, Option, Some, None, Ok, Err, IsSome, if◌then◌else◌}
use Rattle.std.proofs.Common.{refl, ap, sym, subst, ◌∙◌}
use Rattle.std.proofs.lemmas.Bool.{ne_eqb}
use Rattle.seize_words.specs.declared.at.At.{At}
use Rattle.seize_words.specs.declared.at.At.TheVariants.{Word}
use Rattle.seize_words.specs.OneMemory.Mem.{Mem, same_at, block_of, value_in, word_in, value_at, word_at, with_word, fresh, after, Took}
use Rattle.seize_words.specs.OneMemory.Op.{Op, Out, Load, Store, Swap, Add, Or, Exchange, Make, Take, Rewrite, Room, Found, Stored, Exchanged, Made, Taken, Roomed}
use Rattle.seize_words.proofs.OneMemory.OneOwner.AfterWrites.{word_at-with_word, word_at-with_value, block_of-with_block, block_of-made}
use Rattle.run_effects.proofs.Given.SeizeMemoryWords.Named.{block_there, same_at-true}
use Rattle.seize_acts.proofs.Given.SeizeRuleWorld.Values.{own_op_value, taken_value, made_value, rewritten_value}
use Rattle.seize_acts.proofs.Given.SeizeRuleWorld.Events.{missing}
use Rattle.seize.specs.World.{World, NoBlock, Making, InUse, Parting, Cutting, Event, Begin, Step, Makes, Drops, Links, Parts, Unlinks, Rewrites, Operates, Ends, LeavesOver, Relinks, Clears, Chooses, IsOwn, IsOwnOp, Happens, Runs, made_by}
use Rattle.run_effects.specs.Given.RuleInWorld.{IsOut, AllUsers}
use Rattle.run_effects.proofs.Given.RuleWorld.Hands.{at_cases}
use Rattle.seize.specs.Sequence.{IsUsers}

module _ {T : Type 0} (defers : T → Option ℕ) (b d : ℕ) where
  -- a block that was linked has its list in this word
  pub record HasList (w : World T) : Type 0 where
    pub out : IsOut (w.hand b)
    pub value : T
    pub is : value_at w.memory b ≡ Some value
    pub list : defers value ≡ Some d

  -- it has it still, and the word is the same
  abbrev pub KeepsList : World T → World T → Type 0
  KeepsList w w2 = HasList w2 × (word_at w2.memory (Word b d) ≡ word_at w.memory (Word b d))

  there : (w : World T) → HasList w → IsSome (value_at w.memory b)
  there w h = subst IsSome (sym h.is) refl

  -- a block that somebody makes, or has made, is another one
  made_apart : (w : World T) → HasList w → (x i : ℕ) → w.hand x ≡ Making i → b ≢ x
  made_apart w h x i making e = subst IsOut (ap w.hand e ∙ making) h.out

  -- its value and its word are as they were
  kept : (w w2 : World T) → HasList w → value_at w2.memory b ≡ value_at w.memory b → IsOut (w2.hand b) → word_at w2.memory (Word b d) ≡ word_at w.memory (Word b d) → KeepsList w w2
  kept w w2 h same out word = (record { out = out; value = h.value; is = same ∙ h.is; list = h.list }, word)

  -- a word that was written is not that of the list
  list_written : (w : World T) → HasList w → (at : At) (word : ℕ) → IsOwn defers w.memory at → word_at (with_word w.memory at word) (Word b d) ≡ word_at w.memory (Word b d)
  list_written w h at word own = go (word_at w.memory at) refl
    where
      apart : (q : Bool) → same_at (Word b d) at ≡ q → q ≡ false
      apart true e =
          absurd (let is : Word b d ≡ at = same_at-true (Word b d) at e in
          let mine : IsOwn defers w.memory (Word b d) = subst (IsOwn defers w.memory) (sym is) own in
          let same : mine.0 ≡ h.value = (let here = mine.1 in let there = h.is in cc (here, there)) in mine.2 (ap defers same ∙ h.list))
      apart false e = refl

      go : (o : Option ℕ) → word_at w.memory at ≡ o → word_at (with_word w.memory at word) (Word b d) ≡ word_at w.memory (Word b d)
      go None e = ap (λ (k : Mem T). word_at k (Word b d)) (missing defers w.memory at word own e)
      go (Some x) e =
          word_at-with_word w.memory at word (Word b d) (subst IsSome (sym e) refl)
          ∙ ap (λ q. if q then Some word else word_at w.memory (Word b d)) (apart (same_at (Word b d) at) refl)

  op_list : (w : World T) → HasList w → (op : Op T) (out : Out T) → IsOwnOp defers w.memory op → word_at (after w.memory op out) (Word b d) ≡ word_at w.memory (Word b d)
  op_list w h (Load at) out own = refl
  op_list w h (Store at v) out own = list_written w h at v own
  op_list w h (Swap at v) out own = list_written w h at v own
  op_list w h (Add at v) (Found x) own = list_written w h at ((x + v) % 2 ^ 64) own
  op_list w h (Add at v) Stored own = refl
  op_list w h (Add at v) (Exchanged r) own = refl
  op_list w h (Add at v) (Made r) own = refl
  op_list w h (Add at v) (Taken x) own = refl
  op_list w h (Add at v) (Roomed r) own = refl
  op_list w h (Or at v) (Found x) own = list_written w h at (bit_or x v) own
  op_list w h (Or at v) Stored own = refl
  op_list w h (Or at v) (Exchanged r) own = refl
  op_list w h (Or at v) (Made r) own = refl
  op_list w h (Or at v) (Taken x) own = refl
  op_list w h (Or at v) (Roomed r) own = refl
  op_list w h (Exchange at old new) (Exchanged (Ok x)) own = list_written w h at new own
  op_list w h (Exchange at old new) (Exchanged (Err x)) own = refl
  op_list w h (Exchange at old new) (Found x) own = refl
  op_list w h (Exchange at old new) Stored own = refl
  op_list w h (Exchange at old new) (Made r) own = refl
  op_list w h (Exchange at old new) (Taken x) own = refl
  op_list w h (Exchange at old new) (Roomed r) own = refl
  op_list w h (Make value words) out own = absurd own
  op_list w h (Take x) out own = absurd own
  op_list w h (Rewrite x value) out own = absurd own
  op_list w h (Room bucket) out own = absurd own

  made_word : (m : Mem T) (value : T) (words x : ℕ) (n : Mem T) → Took m (Make value words) (Made (Ok x)) n → b ≢ x → word_at n (Word b d) ≡ word_at m (Word b d)
  made_word m value words x n took apart =
      ap (λ (k : Mem T). word_at k (Word b d)) took.1
      ∙ ap (λ o. word_in o d) (block_of-made m value words x b took.0.0 ∙ ap (λ q. if q then Some (fresh value words) else block_of m b) (ne_eqb b x apart))

  made_list : (w : World T) → HasList w → (i : ℕ) (value : T) (words : ℕ) (out : Out T) (m : Mem T) → Took w.memory (Make value words) out m → KeepsList w (made_by defers w i m out)
  made_list w h i value words (Made (Ok x)) m took =
      kept w (made_by defers w i m (Made (Ok x))) h (made_value defers w.memory b value words (Made (Ok x)) m (there w h) took)
      (at_cases IsOut w.hand x (Making i) b (λ e. absurd (apart e)) (λ ne. h.out)) (made_word w.memory value words x m took apart)
    where
      apart : b ≢ x
      apart e = absurd (let none : value_at w.memory b ≡ None = ap (value_at w.memory) e ∙ ap value_in took.0.0.0 in let some = h.is in cc (none, some))
  made_list w h i value words (Made (Err back)) m took =
      kept w (made_by defers w i m (Made (Err back))) h (made_value defers w.memory b value words (Made (Err back)) m (there w h) took) h.out (ap (λ (k : Mem T). word_at k (Word b d)) took.1)
  made_list w h i value words (Found word) m took = absurd took.0
  made_list w h i value words Stored m took = absurd took.0
  made_list w h i value words (Exchanged r) m took = absurd took.0
  made_list w h i value words (Taken x) m took = absurd took.0
  made_list w h i value words (Roomed r) m took = absurd took.0

  taken_word : (m : Mem T) (x : ℕ) (out : Out T) (n : Mem T) → Took m (Take x) out n → b ≢ x → word_at n (Word b d) ≡ word_at m (Word b d)
  taken_word m x (Taken value) n took apart =
      let y = block_there m x (rw took.0 refl) in
      ap (λ (k : Mem T). word_at k (Word b d)) took.1
      ∙ ap (λ o. word_in o d) (block_of-with_block m x b y.0 None y.1 ∙ ap (λ q. if q then None else block_of m b) (ne_eqb b x apart))
  taken_word m x (Found word) n took apart = absurd took.0
  taken_word m x Stored n took apart = absurd took.0
  taken_word m x (Exchanged r) n took apart = absurd took.0
  taken_word m x (Made r) n took apart = absurd took.0
  taken_word m x (Roomed r) n took apart = absurd took.0

  event_list : (size : ℕ) (e : Event T) (w w2 : World T) → IsUsers e → Happens defers size e w w2 → HasList w → KeepsList w w2
  event_list size (Begin i request) w w2 users e h = absurd users
  event_list size (Step i) w w2 users e h = absurd users
  event_list size (Makes i value words) w w2 users e h = subst (KeepsList w) (sym e.4) (made_list w h i value words e.0 e.1 e.3)
  event_list size (Drops i x) w w2 users e h =
      let apart = made_apart w h x e.2.0 e.2.1 in
      subst (KeepsList w) (sym e.4) (kept w _ h (taken_value defers w.memory b x e.0 e.1 e.3 apart)
      (at_cases IsOut w.hand x NoBlock b (λ same. absurd (apart same)) (λ ne. h.out)) (taken_word w.memory x e.0 e.1 e.3 apart))
  event_list size (Links i x o) w w2 users e h = subst (KeepsList w) (sym e.1) (kept w _ h refl (at_cases IsOut w.hand x (InUse o) b (λ same. tt) (λ ne. h.out)) refl)
  event_list size (Parts i x) w w2 users e h = subst (KeepsList w) (sym e.1) (kept w _ h refl (at_cases IsOut w.hand x (Parting i) b (λ same. tt) (λ ne. h.out)) refl)
  event_list size (Unlinks i x) w w2 users e h = subst (KeepsList w) (sym e.1) (kept w _ h refl (at_cases IsOut w.hand x (Cutting i) b (λ same. tt) (λ ne. h.out)) refl)
  event_list size (Rewrites i x value) w w2 users e h =
      subst (KeepsList w) (sym e.5) (kept w _ h (rewritten_value defers w.memory b x value e.0 e.1 e.3 (made_apart w h x e.2.0 e.2.1)) h.out
      (ap (λ (k : Mem T). word_at k (Word b d)) e.3.1 ∙ word_at-with_value w.memory x value (Word b d) (rw e.3.0 refl)))
  event_list size (Operates op) w w2 users e h = subst (KeepsList w) (sym e.4) (
    record { out = h.out; value = h.value; is = ap (λ (k : Mem T). value_at k b) e.3.1 ∙ own_op_value defers w.memory b op e.0 e.2 ∙ h.is; list = h.list },
    ap (λ (k : Mem T). word_at k (Word b d)) e.3.1 ∙ op_list w h op e.0 e.2,
  )
  event_list size (Ends i o) w w2 users e h = absurd users
  event_list size (LeavesOver i x further) w w2 users e h = absurd users
  event_list size (Relinks i x word) w w2 users e h = absurd users
  event_list size (Clears i x) w w2 users e h = absurd users
  event_list size (Chooses choice) w w2 users e h = subst (KeepsList w) (sym e) (kept w _ h refl h.out refl)

  pub events_list : (size : ℕ) (events : List (Event T)) (w w2 : World T) → AllUsers events → Runs defers size events w w2 → HasList w → KeepsList w w2
  events_list size [] w w2 users runs h = subst (KeepsList w) (sym runs) (h, refl)
  events_list size (e ∷ events) w w2 users runs h =
      let first = event_list size e w runs.0 users.0 runs.1 h in
      let rest = events_list size events runs.0 w2 users.1 runs.2 first.0 in (rest.0, rest.1 ∙ first.1)

-- What a call has asked about before is so in a later state, where what was there is there still, and no pair comes back that has left.
use Rattle.std.specs.Prelude.{◌≡◌, ◌≢◌, ℕ, ◌<◌, ◌⊎◌, Bool, false, List, Option, Some, None}
use Rattle.std.proofs.Common.{refl, sym, ◌∙◌, inl, inr, arith}
use Rattle.seize_model.specs.Given.SeizeWordsMem.{Mem}
use Rattle.map_facts_late.specs.Given.TablesDeclared.node.Node.{Node}
use Rattle.map_facts_late.specs.Given.RawDeclared.machines.asking.Asking.TheVariants as asking
use Rattle.map_facts_late.specs.Given.RawDeclared.machines.asking.Replies.{Replies}
use Rattle.map_facts_late.specs.Given.RawDeclared.machines.asking.Takes.TheVariants as takes
use Rattle.map_facts_late.specs.Given.RawDeclared.machines.call.Calling.{Calling}
use Rattle.map_facts_late.specs.Given.RawDeclared.machines.call.Calling.TheVariants as at
use Rattle.map_facts_late.specs.Given.RawDeclared.machines.call.KeyCall.{KeyCall}
use Rattle.map_facts_late.specs.Given.RawDeclared.machines.answer.Called.{Called}
use Rattle.map_facts_late.specs.Given.RawDeclared.machines.answer.Called.TheVariants as called
use Rattle.map_facts_late.specs.Given.RuleChart.{Chart}
use Rattle.map_facts_late.specs.Given.RuleWords.{Blocks}
use Rattle.many_calls.specs.Asked.{Asked, last_reply, replies_before}
use Rattle.many_calls.specs.AskedOnce.{WasAsked, HasGone, IsOfKeys, IsRecalled, IsNew, AskedAt, AsksOnce}
use Rattle.many_calls.proofs.Asked.Backs.{RecallsSame}
use Rattle.many_calls.proofs.Asked.Fills.{AsksNone}
use Rattle.many_calls.proofs.Asked.Stays.{Stays, word_on}

pub same_recall : {K V : Type 0} (r : Replies K V) → RecallsSame r r
same_recall r = (refl, refl, λ some. some)

-- where a step leads
abbrev pub OnceTo : {K V : Type 0} → (K → ℕ) → Chart K → Blocks → (K → Bool) → List (Asked V) → Option K → {Q : Type 0} → KeyCall K V Q → Called (Node K V) → Type 0
OnceTo hash c blocks keys asked its p (called.Done answer) = Unit {0}
OnceTo hash c blocks keys asked its p (called.Refused fault) = Unit {0}
OnceTo hash c blocks keys asked its p (called.Gave value) = Unit {0}
OnceTo hash c blocks keys asked its p _ = AsksOnce hash c blocks keys asked its p.replies p.stands

-- it was asked about no pair yet
pub begun_once : {V : Type 0} (absent : Option V) (X : ℕ → Type 0) (n : ℕ) → last_reply (Some n) (replies_before absent) ≢ None → X n
begun_once None X n was = absurd (was refl)
begun_once (Some value) X n was = absurd (was refl)

module _ {K V : Type 0} (hash : K → ℕ) (c c2 : Chart K) (blocks blocks2 : Blocks) (keys : K → Bool) (asked : List (Asked V)) where
  -- by its key, if it may store one
  pub once_as : (its : Option K) (r r2 : Replies K V) (x x2 : Calling) → (AskedAt hash c blocks keys asked r x → AskedAt hash c2 blocks2 keys asked r2 x2)
      → AsksOnce hash c blocks keys asked its r x → AsksOnce hash c2 blocks2 keys asked its r2 x2
  once_as None r r2 x x2 on h = tt
  once_as (Some key) r r2 x x2 on h = on h

  pub once_to : {Q : Type 0} (its : Option K) (r : Replies K V) (x : Calling) (q : KeyCall K V Q) (progress : Called (Node K V))
      → ((key : K) → AskedAt hash c blocks keys asked r x → OnceTo hash c2 blocks2 keys asked (Some key) q progress) → AsksOnce hash c blocks keys asked its r x → OnceTo hash c2 blocks2 keys asked its q progress
  once_to (Some key) r x q progress on h = on key h
  once_to None r x q progress on h = by progress
    where
      by : (x : Called (Node K V)) → OnceTo hash c2 blocks2 keys asked None q x
      by called.Goes = tt
      by called.Waits = tt
      by (called.Gave value) = tt
      by (called.Unstored value) = tt
      by (called.Asks pair) = tt
      by (called.Done answer) = tt
      by (called.Refused fault) = tt

module _ {K V : Type 0} (hash : K → ℕ) (m m2 : Mem (Node K V)) (c c2 : Chart K) (blocks blocks2 : Blocks) (keys : K → Bool) (asked : List (Asked V))
    (stays : Stays m m2 c c2 blocks blocks2) (gone : (n : ℕ) → n < c.stored → c.current n ≡ false → c2.current n ≡ false) where
  pub gone_on : (n : ℕ) → HasGone hash c blocks keys asked n → HasGone hash c2 blocks2 keys asked n
  gone_on n h = ((let s = stays.stored in let l = h.0 in omega (arith, l, s)), gone n h.0 h.1)

  pub of_keys_on : (n : ℕ) → IsOfKeys hash c blocks keys asked n → IsOfKeys hash c2 blocks2 keys asked n
  of_keys_on n (was, known, k, key, one) = ((let s = stays.stored in omega (arith, was, s)), (stays.pairs n was known).1, k, stays.keys n was ∙ key, one)

  recalled_on : (r r2 : Replies K V) → RecallsSame r r2 → (n : ℕ) → IsRecalled hash c blocks keys asked r n → IsRecalled hash c2 blocks2 keys asked r2 n
  recalled_on r r2 same n (its, block, some) = (of_keys_on n its, (stays.pairs n its.0 its.1).0 ∙ block ∙ sym same.1, same.2 some)

  pub new_on : (word : ℕ) → IsNew hash c blocks keys asked word → IsNew hash c2 blocks2 keys asked word
  new_on word (n, its, borrowed, is, none) =
      let w = word_on hash m m2 c c2 blocks blocks2 None asked stays word (Some n) ((its.0, its.1), borrowed, is) in (n, of_keys_on n its, w.1, w.2, none)

  -- each pair has gone, or is remembered
  abbrev pub AllGoneOr : Replies K V → Type 0
  AllGoneOr r = (r.takes ≢ takes.Choices) × ((n : ℕ) → WasAsked hash c blocks keys asked n → HasGone hash c blocks keys asked n ⊎ IsRecalled hash c blocks keys asked r n)

  pub all_on : (r r2 : Replies K V) → RecallsSame r r2 → AllGoneOr r
      → (r2.takes ≢ takes.Choices) × ((n : ℕ) → WasAsked hash c2 blocks2 keys asked n → HasGone hash c2 blocks2 keys asked n ⊎ IsRecalled hash c2 blocks2 keys asked r2 n)
  all_on r r2 same (takes_is, all) = ((λ choices. takes_is (sym same.0 ∙ choices)), (λ n was. by n (all n was)))
    where
      by : (n : ℕ) → HasGone hash c blocks keys asked n ⊎ IsRecalled hash c blocks keys asked r n → HasGone hash c2 blocks2 keys asked n ⊎ IsRecalled hash c2 blocks2 keys asked r2 n
      by n (inl h) = inl (gone_on n h)
      by n (inr h) = inr (recalled_on r r2 same n h)

  -- it asks about none then
  pub asked_as : (r r2 : Replies K V) → RecallsSame r r2 → AllGoneOr r → (stands : Calling) → AsksNone stands → AskedAt hash c2 blocks2 keys asked r2 stands
  asked_as r r2 same all (at.Asks (asking.Present word)) none = absurd none
  asked_as r r2 same all (at.Counts removed) none = tt
  asked_as r r2 same all (at.Disposes d answer) none = tt
  asked_as r r2 same all (at.Drops end) none = tt
  asked_as r r2 same all (at.Over end) none = tt
  asked_as r r2 same all (at.Asks (asking.Absent gap)) none = all_on r r2 same all
  asked_as r r2 same all (at.Asks (asking.Fills word)) none = all_on r r2 same all
  asked_as r r2 same all (at.Asks (asking.GivesUp word)) none = all_on r r2 same all
  asked_as r r2 same all at.Makes none = all_on r r2 same all
  asked_as r r2 same all (at.Looks l) none = all_on r r2 same all
  asked_as r r2 same all at.Roots none = all_on r r2 same all
  asked_as r r2 same all at.Probes none = all_on r r2 same all
  asked_as r r2 same all (at.Tries word new) none = all_on r r2 same all
  asked_as r r2 same all at.Nexts none = all_on r r2 same all
  asked_as r r2 same all (at.Firsts making) none = all_on r r2 same all
  asked_as r r2 same all (at.Allocs making) none = all_on r r2 same all
  asked_as r r2 same all (at.Helps copier goal) none = all_on r r2 same all
  asked_as r r2 same all (at.Copies copier) none = all_on r r2 same all

  -- or stands where it stood
  pub asked_on : (r : Replies K V) (stands : Calling) → AskedAt hash c blocks keys asked r stands → AskedAt hash c2 blocks2 keys asked r stands
  asked_on r (at.Asks (asking.Present word)) (takes_is, is_new, all) = (takes_is, new_on word is_new, λ n was. gone_on n (all n was))
  asked_on r (at.Counts removed) h = tt
  asked_on r (at.Disposes d answer) h = tt
  asked_on r (at.Drops end) h = tt
  asked_on r (at.Over end) h = tt
  asked_on r (at.Asks (asking.Absent gap)) h = all_on r r (same_recall r) h
  asked_on r (at.Asks (asking.Fills word)) h = all_on r r (same_recall r) h
  asked_on r (at.Asks (asking.GivesUp word)) h = all_on r r (same_recall r) h
  asked_on r at.Makes h = all_on r r (same_recall r) h
  asked_on r (at.Looks l) h = all_on r r (same_recall r) h
  asked_on r at.Roots h = all_on r r (same_recall r) h
  asked_on r at.Probes h = all_on r r (same_recall r) h
  asked_on r (at.Tries word new) h = all_on r r (same_recall r) h
  asked_on r at.Nexts h = all_on r r (same_recall r) h
  asked_on r (at.Firsts making) h = all_on r r (same_recall r) h
  asked_on r (at.Allocs making) h = all_on r r (same_recall r) h
  asked_on r (at.Helps copier goal) h = all_on r r (same_recall r) h
  asked_on r (at.Copies copier) h = all_on r r (same_recall r) h

  pub once_on : (its : Option K) (r : Replies K V) (stands : Calling) → AsksOnce hash c blocks keys asked its r stands → AsksOnce hash c2 blocks2 keys asked its r stands
  once_on None r stands h = tt
  once_on (Some key) r stands h = asked_on r stands h

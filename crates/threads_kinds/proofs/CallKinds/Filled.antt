-- A call on one key puts a value into a block of its own, or gives that block up: it is a call of the same kind then, and has come as far.
use Rattle.std.specs.Prelude.{◌==◌, if◌then◌else◌, Option, Some, None, Ok, Err}
use Rattle.std.proofs.Common.{◌≡◌, ℕ, Bool, true, false, inl, inr, refl, sym, subst, ap}
use Rattle.std.proofs.lemmas.Bool.{eq-eqb}
use Rattle.seize_words.specs.OneMemory.Op.{Found, Stored, Exchanged, Made, Taken, Roomed}
use Rattle.map_tables.specs.declared.node.Node.{Node}
use Rattle.map_tables.specs.declared.node.Node.TheVariants as nodes
use Rattle.papaya_raw.specs.CallFills.{putting_by, fill_by, fills_with, fills, gives_up}
use Rattle.papaya_raw.specs.Replies.{value_replied, owned, value_for, back, back_present}
use Rattle.papaya_raw.specs.declared.machines.answer.Called.{Called}
use Rattle.papaya_raw.specs.declared.machines.asking.Asking.TheVariants as asking
use Rattle.papaya_raw.specs.declared.machines.asking.Replies.{Replies}
use Rattle.papaya_raw.specs.declared.machines.asking.Told.{Told}
use Rattle.papaya_raw.specs.declared.machines.asking.Told.TheVariants as tells
use Rattle.papaya_raw.specs.declared.machines.call.Calling.{Calling}
use Rattle.papaya_raw.specs.declared.machines.call.Calling.TheVariants as at
use Rattle.papaya_raw.specs.declared.machines.call.KeyCall.{KeyCall}
use Rattle.threads_kinds.specs.CallKinds.Kinds.{Kind, Stage, IsUntold, IsNoValue, IsOneValue, IsOfGap, IsGapReplied, IsFresh, HoldsBy, IsAtPointSo, IsSo, SaysSo}
use Rattle.threads_kinds.proofs.CallKinds.Asked.{of_gap}
use Rattle.threads_kinds.specs.CallKinds.Leads.{Leads}

module _ {V : Type 0} where
  untold_none : (t : Told V) (v : V) → IsUntold t → value_replied t ≡ Some v → ⊥
  untold_none tells.Nothing v is e = cc e
  untold_none tells.Own v is e = absurd is
  untold_none (tells.Value value) v is e = absurd is
  untold_none tells.Removes v is e = absurd is

  no_value : (t : Told V) (v : V) → IsNoValue t → value_replied t ≡ Some v → ⊥
  no_value tells.Nothing v is e = cc e
  no_value tells.Own v is e = cc e
  no_value (tells.Value value) v is e = absurd is
  no_value tells.Removes v is e = cc e

  owned_none : (t : Told V) → IsNoValue (owned t)
  owned_none tells.Nothing = tt
  owned_none tells.Own = tt
  owned_none (tells.Value value) = tt
  owned_none tells.Removes = tt

  owned_gap : (t : Told V) → IsOfGap t → IsOfGap (owned t)
  owned_gap tells.Nothing is = tt
  owned_gap tells.Own is = tt
  owned_gap (tells.Value value) is = tt
  owned_gap tells.Removes is = absurd is

  owned_told : (gap : Bool) (t : Told V) → IsGapReplied gap t → IsGapReplied gap (owned t)
  owned_told false t is = tt
  owned_told true tells.Nothing is = absurd is
  owned_told true tells.Own is = tt
  owned_told true (tells.Value value) is = tt
  owned_told true tells.Removes is = tt

  value_told_so : (gap : Bool) (value : V) → IsGapReplied gap (tells.Value value)
  value_told_so true value = tt
  value_told_so false value = tt

  -- where one of two is the value, the other is none
  after_first : (t u : Told V) (v : V) → IsOneValue t u → value_replied t ≡ Some v → IsNoValue u
  after_first t tells.Nothing v one e = tt
  after_first t tells.Own v one e = tt
  after_first t tells.Removes v one e = tt
  after_first (tells.Value x) (tells.Value y) v one e = absurd one
  after_first tells.Nothing (tells.Value y) v one e = absurd (cc e)
  after_first tells.Own (tells.Value y) v one e = absurd (cc e)
  after_first tells.Removes (tells.Value y) v one e = absurd (cc e)

  after_second : (t u : Told V) (v : V) → IsOneValue t u → value_replied u ≡ Some v → IsNoValue t
  after_second tells.Nothing u v one e = tt
  after_second tells.Own u v one e = tt
  after_second tells.Removes u v one e = tt
  after_second (tells.Value x) (tells.Value y) v one e = absurd one
  after_second (tells.Value x) tells.Nothing v one e = absurd (cc e)
  after_second (tells.Value x) tells.Own v one e = absurd (cc e)
  after_second (tells.Value x) tells.Removes v one e = absurd (cc e)

  pub one_of_first : (t u : Told V) → IsNoValue u → IsOneValue t u
  one_of_first tells.Nothing u is = tt
  one_of_first tells.Own u is = tt
  one_of_first tells.Removes u is = tt
  one_of_first (tells.Value x) tells.Nothing is = tt
  one_of_first (tells.Value x) tells.Own is = tt
  one_of_first (tells.Value x) tells.Removes is = tt
  one_of_first (tells.Value x) (tells.Value y) is = absurd is

  pub one_of_second : (t u : Told V) → IsNoValue t → IsOneValue t u
  one_of_second tells.Nothing u is = tt
  one_of_second tells.Own u is = tt
  one_of_second tells.Removes u is = tt
  one_of_second (tells.Value x) u is = absurd is

module _ {K V : Type 0} (r : Replies K V) (own next : ℕ) (v : V) where
  -- the value that it was told is in its own block
  absent_owned : (told : Bool) → HoldsBy told r own → value_replied r.absent ≡ Some v → HoldsBy told (record r { absent = owned r.absent; key = None }) next
  absent_owned false h some = absurd (untold_none r.absent v h.1 some)
  absent_owned true h some = (
    owned_gap r.absent h.0,
    inr (
      owned_none r.absent,
      elim h.1 as (λ _. IsNoValue r.present) [
        | inl fresh ↦ after_first r.absent r.present v fresh.1 some
        | inr none ↦ none.1
      ],
    ),
  )

  present_owned : (told : Bool) → HoldsBy told r own → value_replied r.present ≡ Some v → HoldsBy told (record r { present = owned r.present; key = None }) next
  present_owned false h some = absurd (no_value r.present v h.2 some)
  present_owned true h some = (
    h.0,
    inr (
      elim h.1 as (λ _. IsNoValue r.absent) [
        | inl fresh ↦ after_second r.absent r.present v fresh.1 some
        | inr none ↦ none.0
      ],
      owned_none r.present,
    ),
  )

module _ {K V : Type 0} (r : Replies K V) where
  -- where there is no value for a word, nothing changes
  unowned : (b : Bool) → value_replied (if b then r.absent else r.present) ≡ None → (if b then record r { absent = owned r.absent } else record r { present = owned r.present }) ≡ r
  unowned true none = ap (λ (t : Told V). record r { absent = t }) (by r.absent none)
    where
      by : (t : Told V) → value_replied t ≡ None → owned t ≡ t
      by tells.Nothing e = refl
      by tells.Own e = refl
      by (tells.Value value) e = absurd (cc e)
      by tells.Removes e = refl
  unowned false none = ap (λ (t : Told V). record r { present = t }) (by r.present none)
    where
      by : (t : Told V) → value_replied t ≡ None → owned t ≡ t
      by tells.Nothing e = refl
      by tells.Own e = refl
      by (tells.Value value) e = absurd (cc e)
      by tells.Removes e = refl

module _ {K V Q : Type 0} (k : Kind) (s : Stage) (shown : ℕ → Option (Node K V)) (c : KeyCall K V Q) (is : IsSo k s c) (end : KeyCall K V Q × Called (Node K V)) where
  -- what was told for a word goes into its own block, by whether the word is empty
  abbrev owned_by : Bool → Replies K V
  owned_by b = if b then record c.replies { absent = owned c.replies.absent } else record c.replies { present = owned c.replies.present }

  owned_so : (b : Bool) (v : V) → value_replied (if b then c.replies.absent else c.replies.present) ≡ Some v → (next : ℕ) (stands : Calling)
      → IsSo k s (record c { replies = record (owned_by b) { key = None }; own = next; stands = stands })
  owned_so true v some next stands = record {
    kind = is.kind;
    holds = absent_owned c.replies c.own next v s.told is.holds some;
    gap = owned_told s.gap c.replies.absent is.gap;
  }
  owned_so false v some next stands = record { kind = is.kind; holds = present_owned c.replies c.own next v s.told is.holds some; gap = is.gap }

  -- a value is put into a block that is made
  fill : (word : ℕ) (key : K) → c.own ≡ 0 → (b : Bool) (o : Option V) → value_replied (if b then c.replies.absent else c.replies.present) ≡ o
      → Leads shown (fill_by o (record c { replies = owned_by b }) word key) end → SaysSo k s shown end
  fill word key none b None is_none e =
      let same = unowned c.replies b is_none in
      let so : IsSo k s (record c { replies = c.replies; stands = at.Probes }) = record { kind = is.kind; holds = is.holds; gap = is.gap } in
      let at_it = subst (λ (r : Replies K V). IsSo k s (record c { replies = r; stands = at.Probes })) (sym same) so in
      subst (SaysSo k s shown) (sym e) record { so = at_it; here = tt }
  fill word key none b (Some v) some e =
      makes (subst (λ (x : Bool). Leads shown (putting_by x (record c { replies = record (owned_by b) { key = None } }) word key v) end) (eq-eqb c.own 0 none) e)
    where
      makes : Leads shown (putting_by true (record c { replies = record (owned_by b) { key = None } }) word key v) end → SaysSo k s shown end
      makes (Made (Ok block), fits, e) = subst (SaysSo k s shown) (sym e) record { so = owned_so b v some _ _; here = tt }
      makes (Made (Err node), fits, e) = subst (SaysSo k s shown) (sym e) record { so = owned_so b v some _ _; here = tt }
      makes (Found x, fits, e) = absurd fits
      makes (Stored, fits, e) = absurd fits
      makes (Exchanged x, fits, e) = absurd fits
      makes (Taken x, fits, e) = absurd fits
      makes (Roomed x, fits, e) = absurd fits

  pub fills_say : (word : ℕ) → IsFresh c.replies.key c.own → Leads shown (fills c word) end → SaysSo k s shown end
  fills_say word fresh e =
      fill word fresh.0 fresh.2 (word == 0) (value_for c.replies word) refl (subst (λ (o : Option K). Leads shown (fills_with o c word) end) fresh.1 e)

  -- its own block is given up, and what was in it is told again
  abbrev given : K → V → Told V → Replies K V
  given key value t = back t (record c.replies { key = Some key }) value

  as_it_was : (key : K) → IsAtPointSo s.told c.replies c.own (at.Asks (asking.GivesUp 0)) → (stands : Calling)
      → IsSo k s (record c { replies = record c.replies { key = Some key }; own = 0; stands = stands })
  as_it_was key here stands = record {
    kind = is.kind;
    holds = subst (λ (b : Bool). HoldsBy b (record c.replies { key = Some key }) 0) (sym here.0) (of_gap c.replies c.own s.told is.holds, inr (here.1, here.2));
    gap = is.gap;
  }

  kept_so : (key : K) (value : V) → IsAtPointSo s.told c.replies c.own (at.Asks (asking.GivesUp 0)) → (stands : Calling) (u : Told V) → c.replies.present ≡ u
      → IsSo k s (record c { replies = back_present u (record c.replies { key = Some key }) value; own = 0; stands = stands })
  kept_so key value here stands tells.Own e = record {
    kind = is.kind;
    holds =
        subst (λ (b : Bool). HoldsBy b (record c.replies { key = Some key; present = tells.Value value }) 0) (sym here.0)
        (of_gap c.replies c.own s.told is.holds, inl ((key, refl, refl), one_of_second c.replies.absent (tells.Value value) here.1));
    gap = is.gap;
  }
  kept_so key value here stands tells.Nothing e = as_it_was key here stands
  kept_so key value here stands (tells.Value x) e = as_it_was key here stands
  kept_so key value here stands tells.Removes e = as_it_was key here stands

  given_so : (key : K) (value : V) → IsAtPointSo s.told c.replies c.own (at.Asks (asking.GivesUp 0)) → (t : Told V) → c.replies.absent ≡ t → (stands : Calling)
      → IsSo k s (record c { replies = given key value t; own = 0; stands = stands })
  given_so key value here tells.Own e stands = record {
    kind = is.kind;
    holds =
        subst (λ (b : Bool). HoldsBy b (given key value tells.Own) 0) (sym here.0) (tt, inl ((key, refl, refl), one_of_first (tells.Value value) c.replies.present here.2));
    gap = value_told_so s.gap value;
  }
  given_so key value here tells.Nothing e stands = kept_so key value here stands c.replies.present refl
  given_so key value here (tells.Value x) e stands = kept_so key value here stands c.replies.present refl
  given_so key value here tells.Removes e stands = kept_so key value here stands c.replies.present refl

  gone_so : IsAtPointSo s.told c.replies c.own (at.Asks (asking.GivesUp 0)) → (stands : Calling) → IsSo k s (record c { own = 0; stands = stands })
  gone_so here stands = record {
    kind = is.kind;
    holds = subst (λ (b : Bool). HoldsBy b c.replies 0) (sym here.0) (of_gap c.replies c.own s.told is.holds, inr (here.1, here.2));
    gap = is.gap;
  }

  pub gives_say : (word : ℕ) → IsAtPointSo s.told c.replies c.own (at.Asks (asking.GivesUp 0)) → Leads shown (gives_up c word) end → SaysSo k s shown end
  gives_say word here (Taken (nodes.Pair key value), fits, e) = subst (SaysSo k s shown) (sym e) record { so = given_so key value here c.replies.absent refl _; here = tt }
  gives_say word here (Taken (nodes.Table len limit turn), fits, e) = subst (SaysSo k s shown) (sym e) record { so = gone_so here _; here = tt }
  gives_say word here (Taken nodes.Shards, fits, e) = subst (SaysSo k s shown) (sym e) record { so = gone_so here _; here = tt }
  gives_say word here (Found x, fits, e) = absurd fits
  gives_say word here (Stored, fits, e) = absurd fits
  gives_say word here (Exchanged x, fits, e) = absurd fits
  gives_say word here (Made x, fits, e) = absurd fits
  gives_say word here (Roomed x, fits, e) = absurd fits

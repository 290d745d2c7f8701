-- Where a call has its key, and its own pair, by what it may do.
use Rattle.std.specs.Prelude.{◌≡◌, ◌≢◌, ℕ, Bool, true, None}
use Rattle.std.proofs.Common.{refl, ap, sym, subst, ◌∙◌, inl, inr}
use Rattle.papaya_raw.specs.Given.SeizeWorld.{World}
use Rattle.papaya_raw.specs.Given.TablesDeclared.node.Node.{Node}
use Rattle.papaya_raw.specs.Given.TablesDeclared.setting.Setting.{Setting}
use Rattle.papaya_raw.specs.declared.machines.answer.Missing.{Missing}
use Rattle.papaya_raw.specs.declared.machines.answer.Missing.TheVariants as missing
use Rattle.papaya_raw.specs.declared.machines.answer.There.{There}
use Rattle.papaya_raw.specs.declared.machines.answer.There.TheVariants as there
use Rattle.papaya_raw.specs.declared.machines.asking.Asking.{Asking}
use Rattle.papaya_raw.specs.declared.machines.asking.Asking.TheVariants as asking
use Rattle.papaya_raw.specs.declared.machines.asking.Takes.{Takes}
use Rattle.papaya_raw.specs.declared.machines.asking.Takes.TheVariants as takes
use Rattle.papaya_raw.specs.declared.machines.call.KeyCall.{KeyCall}
use Rattle.map_rule.specs.Chart.{Chart}
use Rattle.map_rule.specs.Rule.{IsLawful}
use Rattle.map_rule.specs.Words.{Blocks}
use Rattle.map_rule.specs.Maps.{spot_of}
use Rattle.map_facts.specs.FactsCalls.{Change, Unchanged, AskingFacts, MayStore, Holding, Apart, InBlock, ByReply, holding, IsOwnPair, HasOwn, HasIts}
use Rattle.map_facts.proofs.Calls.CallsOn.{Seeking}

-- one that stores its own pair has it in its block
pub puts_missing : (x : Takes) (y : There) (m : Missing) → MayStore x y m → m ≡ missing.Puts → holding x m ≡ InBlock
puts_missing x y missing.Answers may e = absurd (cc e)
puts_missing x y missing.Asks may e = absurd (cc e)
puts_missing takes.Nothing y missing.Puts may e = refl
puts_missing takes.Values there.Answers missing.Puts may e = absurd may
puts_missing takes.Values there.Puts missing.Puts may e = absurd may
puts_missing takes.Values there.Removes missing.Puts may e = absurd may
puts_missing takes.Values there.Asks missing.Puts may e = absurd may
puts_missing takes.Changes there.Answers missing.Puts may e = absurd may
puts_missing takes.Changes there.Puts missing.Puts may e = absurd may
puts_missing takes.Changes there.Removes missing.Puts may e = absurd may
puts_missing takes.Changes there.Asks missing.Puts may e = absurd may
puts_missing takes.Choices there.Answers missing.Puts may e = absurd may
puts_missing takes.Choices there.Puts missing.Puts may e = absurd may
puts_missing takes.Choices there.Removes missing.Puts may e = absurd may
puts_missing takes.Choices there.Asks missing.Puts may e = absurd may

pub puts_there : (x : Takes) (y : There) (m : Missing) → MayStore x y m → y ≡ there.Puts → holding x m ≡ InBlock
puts_there x there.Answers m may e = absurd (cc e)
puts_there x there.Removes m may e = absurd (cc e)
puts_there x there.Asks m may e = absurd (cc e)
puts_there takes.Nothing there.Puts missing.Answers may e = absurd may
puts_there takes.Nothing there.Puts missing.Puts may e = refl
puts_there takes.Nothing there.Puts missing.Asks may e = absurd may
puts_there takes.Values there.Puts m may e = absurd may
puts_there takes.Changes there.Puts m may e = absurd may
puts_there takes.Choices there.Puts m may e = absurd may

-- one that removes, or only looks, has what it is asked with
pub removes_there : (x : Takes) (y : There) (m : Missing) → MayStore x y m → y ≡ there.Removes → holding x m ≡ Apart
removes_there x there.Answers m may e = absurd (cc e)
removes_there x there.Puts m may e = absurd (cc e)
removes_there x there.Asks m may e = absurd (cc e)
removes_there takes.Nothing there.Removes missing.Answers may e = refl
removes_there takes.Nothing there.Removes missing.Puts may e = absurd may
removes_there takes.Nothing there.Removes missing.Asks may e = absurd may
removes_there takes.Values there.Removes m may e = absurd may
removes_there takes.Changes there.Removes m may e = absurd may
removes_there takes.Choices there.Removes m may e = absurd may

pub looks_apart : (x : Takes) (y : There) (m : Missing) → MayStore x y m → y ≡ there.Answers → m ≡ missing.Answers → holding x m ≡ Apart
looks_apart x there.Puts m may e f = absurd (cc e)
looks_apart x there.Removes m may e f = absurd (cc e)
looks_apart x there.Asks m may e f = absurd (cc e)
looks_apart x there.Answers missing.Puts may e f = absurd (cc f)
looks_apart x there.Answers missing.Asks may e f = absurd (cc f)
looks_apart takes.Nothing there.Answers missing.Answers may e f = refl
looks_apart takes.Values there.Answers missing.Answers may e f = absurd may
looks_apart takes.Changes there.Answers missing.Answers may e f = absurd may
looks_apart takes.Choices there.Answers missing.Answers may e f = refl

-- one that asks for a value has its key, or its pair
pub asks_missing : (x : Takes) (y : There) (m : Missing) → MayStore x y m → m ≡ missing.Asks → holding x m ≡ ByReply
asks_missing x y missing.Answers may e = absurd (cc e)
asks_missing x y missing.Puts may e = absurd (cc e)
asks_missing takes.Values y missing.Asks may e = refl
asks_missing takes.Changes y missing.Asks may e = refl
asks_missing takes.Nothing there.Answers missing.Asks may e = absurd may
asks_missing takes.Nothing there.Puts missing.Asks may e = absurd may
asks_missing takes.Nothing there.Removes missing.Asks may e = absurd may
asks_missing takes.Nothing there.Asks missing.Asks may e = absurd may
asks_missing takes.Choices there.Answers missing.Asks may e = absurd may
asks_missing takes.Choices there.Puts missing.Asks may e = absurd may
asks_missing takes.Choices there.Removes missing.Asks may e = absurd may
asks_missing takes.Choices there.Asks missing.Asks may e = absurd may

pub asks_there : (x : Takes) (y : There) (m : Missing) → MayStore x y m → y ≡ there.Asks → x ≢ takes.Choices → holding x m ≡ ByReply
asks_there x there.Answers m may e other = absurd (cc e)
asks_there x there.Puts m may e other = absurd (cc e)
asks_there x there.Removes m may e other = absurd (cc e)
asks_there takes.Values there.Asks m may e other = refl
asks_there takes.Changes there.Asks m may e other = refl
asks_there takes.Choices there.Asks m may e other = absurd (other refl)
asks_there takes.Nothing there.Asks missing.Answers may e other = absurd may
asks_there takes.Nothing there.Asks missing.Puts may e other = absurd may
asks_there takes.Nothing there.Asks missing.Asks may e other = absurd may

-- a call that never asks
pub never_told : (m : Missing) → holding takes.Nothing m ≢ ByReply
never_told missing.Answers k = cc k
never_told missing.Puts k = cc k
never_told missing.Asks k = cc k

pub never_missing : (y : There) (m : Missing) → MayStore takes.Nothing y m → m ≢ missing.Asks
never_missing y m may e = never_told m (asks_missing takes.Nothing y m may e)

pub never_there : (y : There) (m : Missing) → MayStore takes.Nothing y m → y ≢ there.Asks
never_there y m may e = never_told m (asks_there takes.Nothing y m may e (λ c. cc c))

module _ {K V Q : Type 0} (same : K → K → Bool) (hash : K → ℕ) (asks : Q → K → Bool) (caller : ℕ) (setting : Setting) (keys : K → Bool)
    (w : World (Node K V)) (c : Chart K) (blocks : Blocks) (p : KeyCall K V Q) where
  -- what it has, once it is known where
  pub held_as : (x : Holding) → holding p.replies.takes p.missing ≡ x → HasIts same hash asks w caller setting c blocks keys Unchanged p
      → HasOwn same hash asks w caller setting c blocks keys Unchanged x p.asked p.replies.key p.own p.hash
  held_as x e its = subst (λ (y : Holding). HasOwn same hash asks w caller setting c blocks keys Unchanged y p.asked p.replies.key p.own p.hash) e its

  -- a call that never asks stands at no question
  pub never_asks : MayStore p.replies.takes p.there p.missing → p.replies.takes ≡ takes.Nothing → (asks_at : Asking) → (change : Change) → AskingFacts same hash asks w caller setting c blocks keys change p asks_at → ⊥
  never_asks may never (asking.Absent gap) change f = never_missing p.there p.missing (subst (λ (x : Takes). MayStore x p.there p.missing) never may) f.1
  never_asks may never (asking.Present word) change f = never_there p.there p.missing (subst (λ (x : Takes). MayStore x p.there p.missing) never may) f.1
  never_asks may never (asking.Fills word) change f = never_told p.missing (sym (ap (λ (x : Takes). holding x p.missing) never) ∙ f.1)
  never_asks may never (asking.GivesUp word) change f = never_told p.missing (sym (ap (λ (x : Takes). holding x p.missing) never) ∙ f.1)

  -- a lookup has what it is asked with
  pub looks_with : MayStore p.replies.takes p.there p.missing → p.there ≡ there.Answers → p.missing ≡ missing.Answers
      → HasOwn same hash asks w caller setting c blocks keys Unchanged Apart p.asked p.replies.key p.own p.hash → HasIts same hash asks w caller setting c blocks keys Unchanged p
  looks_with may e g own =
      subst (λ (y : Holding). HasOwn same hash asks w caller setting c blocks keys Unchanged y p.asked p.replies.key p.own p.hash) (sym (looks_apart p.replies.takes p.there p.missing may e g)) own

  -- one that is told values, and has a block, has its pair there
  pub pair_some : holding p.replies.takes p.missing ≡ ByReply → p.own ≢ 0 → HasIts same hash asks w caller setting c blocks keys Unchanged p
      → (p.asked ≡ None) × (p.replies.key ≡ None) × IsOwnPair same hash asks w caller setting c blocks keys Unchanged p.own p.hash
  pair_some e some its = by (held_as ByReply e its)
    where
      by : HasOwn same hash asks w caller setting c blocks keys Unchanged ByReply p.asked p.replies.key p.own p.hash
          → (p.asked ≡ None) × (p.replies.key ≡ None) × IsOwnPair same hash asks w caller setting c blocks keys Unchanged p.own p.hash
      by (asked, inl (none, key)) = absurd (some none)
      by (asked, inr (out, own)) = (asked, out, own)

  module _ (s : Seeking same hash asks caller setting keys w c blocks p) where
    pub pair_missing : p.missing ≡ missing.Puts → IsOwnPair same hash asks w caller setting c blocks keys Unchanged p.own p.hash
    pair_missing e = (held_as InBlock (puts_missing p.replies.takes p.there p.missing s.may.0 e) s.own).2

    pub pair_there : p.there ≡ there.Puts → IsOwnPair same hash asks w caller setting c blocks keys Unchanged p.own p.hash
    pair_there e = (held_as InBlock (puts_there p.replies.takes p.there p.missing s.may.0 e) s.own).2

    pub none_removes : p.there ≡ there.Removes → p.own ≡ 0
    none_removes e = (held_as Apart (removes_there p.replies.takes p.there p.missing s.may.0 e) s.own).0

    pub pair_told : holding p.replies.takes p.missing ≡ ByReply → p.replies.key ≡ None → IsOwnPair same hash asks w caller setting c blocks keys Unchanged p.own p.hash
    pair_told e none = by (held_as ByReply e s.own)
      where
        by : HasOwn same hash asks w caller setting c blocks keys Unchanged ByReply p.asked p.replies.key p.own p.hash
            → IsOwnPair same hash asks w caller setting c blocks keys Unchanged p.own p.hash
        by (asked, inl (out, key)) = absurd (let k = key.key_is in cc (k, none))
        by (asked, inr (out, own)) = own

    -- one of its keys, where it may store a pair
    pub key_stored : (lawful : IsLawful same (spot_of hash)) → p.missing ≢ missing.Answers → (k : K) × (keys k ≡ true)
    key_stored lawful other = by p.missing refl
      where
        own_key : IsOwnPair same hash asks w caller setting c blocks keys Unchanged p.own p.hash → (k : K) × (keys k ≡ true)
        own_key own = (own.key, own.keys_are own.key ∙ lawful.classes.refl own.key)

        told_key : HasOwn same hash asks w caller setting c blocks keys Unchanged ByReply p.asked p.replies.key p.own p.hash → (k : K) × (keys k ≡ true)
        told_key (asked, inl (out, key)) = (key.key, key.keys_are key.key ∙ lawful.classes.refl key.key)
        told_key (asked, inr (out, own)) = own_key own

        by : (m : Missing) → p.missing ≡ m → (k : K) × (keys k ≡ true)
        by missing.Answers e = absurd (other e)
        by missing.Puts e = own_key (pair_missing e)
        by missing.Asks e = told_key (held_as ByReply (asks_missing p.replies.takes p.there p.missing s.may.0 e) s.own)

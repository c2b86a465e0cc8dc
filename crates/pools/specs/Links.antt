-- What the links of a pool lead to, before and after a version is added. Assumes nothing.
use Rattle.std.specs.Prelude.{◌≡◌, ℕ, suc, ◌<◌, ◌≤◌, true, ◌&&◌, ◌≢◌, List, length, set, ◌==◌, nat_eq, nat_le, nat_lt}
use Rattle.std.proofs.Common.{sym, ap, subst, ◌∙◌, ⊎_elim, arith}
use Rattle.std.proofs.lemmas.List.{get_or-set_same, get_or-set_other}
use Rattle.std.proofs.lemmas.Bool.{cases_eq, cond-true, cond-false, and_parts, and_from, or_cases, or_left, or_right, eq-eqb, ne_eqb, eqb-true, le-leb, leb-true, lt-ltb, ltb-true}
use Rattle.pools.specs.declared.chain.Chain.{Chain}
use Rattle.pools.specs.declared.chain.Link.{Link}
use Rattle.pools.specs.Chains.{tally, no_link, no_chain, chain_at, link_at, owner, leads, Leads, known, newest_known}
use Rattle.pools.specs.PoolsLemmas.{tally_same}

module _ (cs : List Chain) (n c : ℕ) (l : Link) where
  pub from_leads : leads cs n c l ≡ true → Leads cs n c l
  from_leads e above =
      let t = tally (owner cs) c l.place in
      ⊎_elim
      (λ (none : nat_eq l.number 0 ≡ true). absurd (omega (arith, eqb-true l.number 0 none)))
      (λ led.
      let low = and_parts (nat_lt l.place n) (owner cs l.place == c && suc t == l.number) led in
      let rest = and_parts (owner cs l.place == c) (suc t == l.number) low.1 in
      record { below = ltb-true l.place n low.0; owned = eqb-true (owner cs l.place) c rest.0; told = eqb-true (suc t) l.number rest.1 })
      (or_cases (l.number == 0) (nat_lt l.place n && (owner cs l.place == c && suc t == l.number)) e)

  pub to_leads : Leads cs n c l → leads cs n c l ≡ true
  to_leads led =
      let t = tally (owner cs) c l.place in
      ⊎_elim
      (λ (none : l.number ≡ 0). or_left (l.number == 0) _ (eq-eqb l.number 0 none))
      (λ (some : l.number ≢ 0).
      let is = led (omega arith) in
      or_right (l.number == 0) _
      (and_from (nat_lt l.place n) _ (lt-ltb l.place n is.below)
      (and_from (owner cs l.place == c) _ (eq-eqb (owner cs l.place) c is.owned) (eq-eqb (suc t) l.number is.told))))
      (cases_eq l.number 0)

pub leads_further : (cs : List Chain) (m n c : ℕ) (l : Link) → m ≤ n → Leads cs m c l → Leads cs n c l
leads_further cs m n c l further led above =
    let is = led above in
    record { below = omega (arith, is.below); owned = is.owned; told = is.told }

-- what `known` says
pub record Knows (cs : List Chain) (q : ℕ) : Type 0 where
  pub older_told : (chain_at cs q).older.number ≡ tally (owner cs) (owner cs q) q
  pub older : Leads cs q (owner cs q) (chain_at cs q).older
  pub jump_told : (chain_at cs q).jump.number ≤ tally (owner cs) (owner cs q) q
  pub jump : Leads cs q (owner cs q) (chain_at cs q).jump

module _ (cs : List Chain) (q : ℕ) where
  t : ℕ
  t = tally (owner cs) (owner cs q) q

  pub from_known : known cs q ≡ true → Knows cs q
  unfolding t
  from_known e =
      let x = chain_at cs q in
      let parts = and_parts (x.older.number == t && leads cs q (owner cs q) x.older) (nat_le x.jump.number t && leads cs q (owner cs q) x.jump) e in
      let old = and_parts (x.older.number == t) (leads cs q (owner cs q) x.older) parts.0 in
      let far = and_parts (nat_le x.jump.number t) (leads cs q (owner cs q) x.jump) parts.1 in
      record {
        older_told = eqb-true x.older.number t old.0;
        older = from_leads cs q (owner cs q) x.older old.1;
        jump_told = leb-true x.jump.number t far.0;
        jump = from_leads cs q (owner cs q) x.jump far.1;
      }

  pub to_known : Knows cs q → known cs q ≡ true
  unfolding t
  to_known k =
      let x = chain_at cs q in
      and_from (x.older.number == t && leads cs q (owner cs q) x.older) _
      (and_from (x.older.number == t) _ (eq-eqb x.older.number t k.older_told) (to_leads cs q (owner cs q) x.older k.older))
      (and_from (nat_le x.jump.number t) _ (le-leb x.jump.number t k.jump_told) (to_leads cs q (owner cs q) x.jump k.jump))

-- what `newest_known` says
pub record Newest (cs : List Chain) (n : ℕ) (ls : List Link) (c : ℕ) : Type 0 where
  pub told : (link_at ls c).number ≡ tally (owner cs) c n
  pub led : Leads cs n c (link_at ls c)

module _ (cs : List Chain) (n : ℕ) (ls : List Link) (c : ℕ) where
  pub from_newest : newest_known cs n ls c ≡ true → Newest cs n ls c
  from_newest e =
      let both = and_parts ((link_at ls c).number == tally (owner cs) c n) (leads cs n c (link_at ls c)) e in
      record { told = eqb-true (link_at ls c).number (tally (owner cs) c n) both.0; led = from_leads cs n c (link_at ls c) both.1 }

  pub to_newest : Newest cs n ls c → newest_known cs n ls c ≡ true
  to_newest k =
      and_from ((link_at ls c).number == tally (owner cs) c n) _ (eq-eqb (link_at ls c).number (tally (owner cs) c n) k.told)
      (to_leads cs n c (link_at ls c) k.led)

-- a version of card c more, at place n
module _ (cs : List Chain) (n : ℕ) (x : Chain) (within : n < length cs) where
  abbrev cs' : List Chain
  cs' = set cs n x

  pub chain_new : chain_at cs' n ≡ x
  chain_new = get_or-set_same cs n x no_chain within

  pub chain_kept : (q : ℕ) → q < n → chain_at cs' q ≡ chain_at cs q
  chain_kept q h = get_or-set_other cs n q x no_chain (λ e. omega arith)

  pub owner_kept : (q : ℕ) → q < n → owner cs' q ≡ owner cs q
  owner_kept q h = ap (λ y. y.card.0) (chain_kept q h)

  tally_kept : (d m : ℕ) → m ≤ n → tally (owner cs') d m ≡ tally (owner cs) d m
  tally_kept d m h = tally_same (owner cs) (owner cs') d m (λ k (u : k < m). owner_kept k (omega arith))

  leads_kept : (m d : ℕ) (l : Link) → m ≤ n → Leads cs m d l → Leads cs' m d l
  leads_kept m d l h led above =
      let is = led above in
      record {
        below = is.below;
        owned = owner_kept l.place (omega (arith, is.below)) ∙ is.owned;
        told = ap suc (tally_kept d l.place (omega (arith, is.below))) ∙ is.told;
      }

  pub knows_kept : (q : ℕ) → q < n → Knows cs q → Knows cs' q
  knows_kept q h k =
      let same = chain_kept q h in
      let own = owner_kept q h in
      let count : tally (owner cs') (owner cs' q) q ≡ tally (owner cs) (owner cs q) q = ap (λ d. tally (owner cs') d q) own ∙ tally_kept (owner cs q) q (omega arith) in
      record {
        older_told = ap (λ y. y.older.number) same ∙ k.older_told ∙ sym count;
        older = subst (λ y. Leads cs' q y.card.0 y.older) (sym same) (leads_kept q (owner cs q) (chain_at cs q).older (omega arith) k.older);
        jump_told = omega (arith, ap (λ y. y.jump.number) same, k.jump_told, count);
        jump = subst (λ y. Leads cs' q y.card.0 y.jump) (sym same) (leads_kept q (owner cs q) (chain_at cs q).jump (omega arith) k.jump);
      }

  module _ (older : x.older.number ≡ tally (owner cs) x.card.0 n) (back : Leads cs n x.card.0 x.older)
      (shorter : x.jump.number ≤ x.older.number) (far : Leads cs n x.card.0 x.jump) where
    pub knows_new : Knows cs' n
    knows_new =
        let same = chain_new in
        let count : tally (owner cs') (owner cs' n) n ≡ tally (owner cs) x.card.0 n = ap (λ y. tally (owner cs') y.card.0 n) same ∙ tally_kept x.card.0 n (omega arith) in
        record {
          older_told = ap (λ y. y.older.number) same ∙ older ∙ sym count;
          older = subst (λ y. Leads cs' n y.card.0 y.older) (sym same) (leads_kept n x.card.0 x.older (omega arith) back);
          jump_told = omega (arith, ap (λ y. y.jump.number) same, count);
          jump = subst (λ y. Leads cs' n y.card.0 y.jump) (sym same) (leads_kept n x.card.0 x.jump (omega arith) far);
        }

    -- every place up to the new one is known
    pub all_known : ((q : ℕ) → q < n → known cs q ≡ true) → (q : ℕ) → q < suc n → known cs' q ≡ true
    all_known before q h =
        ⊎_elim
        (λ (e : q ≡ n). subst (λ k. known cs' k ≡ true) (sym e) (to_known cs' n knows_new))
        (λ (ne : q ≢ n). let low : q < n = omega arith in to_known cs' q (knows_kept q low (from_known cs q (before q low))))
        (cases_eq q n)

    -- and so is every card's newest version
    pub all_newest : (ls : List Link) (cards : ℕ) → x.card.0 < length ls → ((d : ℕ) → d < cards → newest_known cs n ls d ≡ true) → (d : ℕ) → d < cards
        → newest_known cs' (suc n) (set ls x.card.0 (record { number = suc x.older.number; place = n })) d ≡ true
    all_newest ls cards room before d h =
        let c = x.card.0 in
        let y : Link = record { number = suc x.older.number; place = n } in
        let ls' = set ls c y in
        let own : owner cs' n ≡ c = ap (λ z. z.card.0) chain_new in
        ⊎_elim
        (λ (e : d ≡ c).
        let here : link_at ls' d ≡ y = ap (link_at ls') e ∙ get_or-set_same ls c y no_link room in
        let count : tally (owner cs') d n ≡ x.older.number = ap (λ k. tally (owner cs') k n) e ∙ tally_kept c n (omega arith) ∙ sym older in
        let more : tally (owner cs') d (suc n) ≡ suc (tally (owner cs') d n) = cond-true (owner cs' n == d) _ _ (eq-eqb (owner cs' n) d (own ∙ sym e)) in
        to_newest cs' (suc n) ls' d
        (record {
          told = ap (λ z. z.number) here ∙ ap suc (sym count) ∙ sym more;
          led = subst (Leads cs' (suc n) d) (sym here) (λ _. record { below = omega arith; owned = own ∙ sym e; told = ap suc count });
        }))
        (λ (ne : d ≢ c).
        let k = from_newest cs n ls d (before d h) in
        let here : link_at ls' d ≡ link_at ls d = get_or-set_other ls c d y no_link ne in
        let more : tally (owner cs') d (suc n) ≡ tally (owner cs') d n = cond-false (owner cs' n == d) _ _ (ne_eqb (owner cs' n) d (λ e. ne (sym e ∙ own))) in
        to_newest cs' (suc n) ls' d
        (record {
          told = ap (λ z. z.number) here ∙ k.told ∙ sym (more ∙ tally_kept d n (omega arith));
          led = subst (Leads cs' (suc n) d) (sym here) (leads_further cs' n (suc n) d (link_at ls d) (omega arith) (leads_kept n d (link_at ls d) (omega arith) k.led));
        }))
        (cases_eq d c)

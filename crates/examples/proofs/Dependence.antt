-- Histories that finite lists tell: what dependence, consistency and clashes come to there.
--     Fact, Edge                  who read or wrote which version of a card; a dependence
--     Listed h rs ws ds           the lists hold what was read, what was written and who committed, and nothing more
--     steps, after, chains        who reads from whom; a step and then one of the edges; chains of bounded length
--     Closed rs ws es             the edges es have every step, and are closed under one step more
--     consistent?, conflict_free? these settle the two properties, where the chains are closed
use Rattle.std.proofs.Common.{◌≡◌, ℕ, zero, suc, ◌≤◌, ◌⊎◌, List, ◌++◌, sym, refl, ap, subst, inl, inr}
use Rattle.isolation.specs.History.{History, ReadsFrom, Depends, one, more, ConsistentSnapshots, WriteConflictFree}
use Rattle.examples.proofs.Finite.{In, eq?, le?, like?, both?, not?, if?, all?, in?, in_left, in_right, in_either}
use Rattle.examples.proofs.Finite.{collect, collect_in, in_collect, pairs, pairs_in, in_pairs}

pub record Fact : Type 0 where
  pub who : ℕ
  pub card : ℕ
  pub version : ℕ

pub record Edge : Type 0 where
  pub from : ℕ
  pub to : ℕ

abbrev pub fact : (t x k : ℕ) → Fact
fact t x k = record { who = t; card = x; version = k }

abbrev pub edge : (t u : ℕ) → Edge
edge t u = record { from = t; to = u }

pub record Listed (h : History) (rs ws : List Fact) (ds : List ℕ) : Type 0 where
  pub read_in : (t x k : ℕ) → h.Read t x k → In (fact t x k) rs
  pub in_read : (f : Fact) → In f rs → h.Read f.who f.card f.version
  pub wrote_in : (t x k : ℕ) → h.Wrote t x k → In (fact t x k) ws
  pub in_wrote : (f : Fact) → In f ws → h.Wrote f.who f.card f.version
  pub done_in : (t : ℕ) → h.Done t → In t ds
  pub in_done : (t : ℕ) → In t ds → h.Done t

-- a read and a write of one version
abbrev Same : Fact × Fact → Type 0
Same p = (p.0.card ≡ p.1.card) × (p.0.version ≡ p.1.version)

abbrev same? : (p : Fact × Fact) → Dec (Same p)
same? p = both? (eq? p.0.card p.1.card) (eq? p.0.version p.1.version)

abbrev step_of : Fact × Fact → Edge
step_of p = edge p.0.who p.1.who

abbrev pub steps : List Fact → List Fact → List Edge
steps rs ws = collect Same same? step_of (pairs rs ws)

-- two edges that meet
abbrev Meet : Edge × Edge → Type 0
Meet p = p.0.to ≡ p.1.from

abbrev meet? : (p : Edge × Edge) → Dec (Meet p)
meet? p = eq? p.0.to p.1.from

abbrev chain_of : Edge × Edge → Edge
chain_of p = edge p.0.from p.1.to

abbrev pub after : List Edge → List Edge → List Edge
after ss es = collect Meet meet? chain_of (pairs ss es)

abbrev pub chains : List Edge → ℕ → List Edge
chains ss zero = ss
chains ss (suc n) = ss ++ after ss (chains ss n)

abbrev same_edge? : (d e : Edge) → Dec (d ≡ e)
same_edge? d e =
    like? (λ p z. record { from = p.0 z; to = p.1 z }) (λ p. (ap (λ q. q.from) p, ap (λ q. q.to) p))
    (both? (eq? d.from e.from) (eq? d.to e.to))

abbrev pub Closed : List Edge → List Edge → Type 0
Closed ss es = (e : Edge) → In e (ss ++ after ss es) → In e es

abbrev pub closed? : (ss es : List Edge) → Dec (Closed ss es)
closed? ss es = all? (λ e. In e es) (ss ++ after ss es) (λ e. in? same_edge? e es)

module _ (h : History) (rs ws : List Fact) (ds : List ℕ) (told : Listed h rs ws ds) where
  in_steps : (e : Edge) → In e (steps rs ws) → ReadsFrom h e.from e.to
  in_steps e i =
      let (p, j, (c, v), q) = in_collect Same same? step_of (pairs rs ws) e i in
      let (r, w) = in_pairs rs ws p j in
      subst (λ e. ReadsFrom h e.from e.to) q
      (record {
        card = p.1.card;
        version = p.1.version;
        read = subst (λ k. h.Read p.0.who p.1.card k) v (subst (λ x. h.Read p.0.who x p.0.version) c (told.in_read p.0 r));
        wrote = told.in_wrote p.1 w;
      })

  steps_in : (t u : ℕ) → ReadsFrom h t u → In (edge t u) (steps rs ws)
  steps_in t u s =
      let r = fact t s.card s.version in
      let w = fact u s.card s.version in
      collect_in Same same? step_of (pairs rs ws) (r, w)
      (pairs_in rs ws r w (told.read_in t s.card s.version s.read) (told.wrote_in u s.card s.version s.wrote))
      (refl, refl)

  pub sound : (n : ℕ) (e : Edge) → In e (chains (steps rs ws) n) → Depends h e.from e.to
  sound zero e i = one (in_steps e i)
  sound (suc n) e i = go (sound n) (in_either (steps rs ws) (after (steps rs ws) (chains (steps rs ws) n)) e i)
    where
      go : ((e : Edge) → In e (chains (steps rs ws) n) → Depends h e.from e.to)
          → In e (steps rs ws) ⊎ In e (after (steps rs ws) (chains (steps rs ws) n)) → Depends h e.from e.to
      go rest (inl j) = one (in_steps e j)
      go rest (inr j) =
          let (p, k, m, q) = in_collect Meet meet? chain_of (pairs (steps rs ws) (chains (steps rs ws) n)) e j in
          let (a, b) = in_pairs (steps rs ws) (chains (steps rs ws) n) p k in
          subst (λ e. Depends h e.from e.to) q
          (more (subst (λ u. ReadsFrom h p.0.from u) m (in_steps p.0 a)) (rest p.1 b))

  pub complete : (es : List Edge) → Closed (steps rs ws) es → {t u : ℕ} → Depends h t u → In (edge t u) es
  complete es closed {t} {u} (one s) = closed (edge t u) (in_left (steps rs ws) (after (steps rs ws) es) (edge t u) (steps_in t u s))
  complete es closed {t} {u} (more {u = m} s d) =
      closed (edge t u)
      (in_right (steps rs ws) (after (steps rs ws) es) (edge t u)
      (collect_in Meet meet? chain_of (pairs (steps rs ws) es) (edge t m, edge m u)
      (pairs_in (steps rs ws) es (edge t m) (edge m u) (steps_in t m s) (complete es closed d)) refl))

  module _ (n : ℕ) (closed : Closed (steps rs ws) (chains (steps rs ws) n)) where
    abbrev edges : List Edge
    edges = chains (steps rs ws) n

    abbrev depends? : (t u : ℕ) → Dec (Depends h t u)
    depends? t u = like? (sound n (edge t u)) (complete edges closed) (in? same_edge? (edge t u) edges)

    -- r is a read by a transaction with the dependence e, and w a write of the same card by the one that it depends on
    abbrev Seen : Fact → Edge → Fact → Type 0
    Seen r e w = (r.who ≡ e.from) × ((e.to ≡ w.who) × (r.card ≡ w.card))

    abbrev OldEnough : Type 0
    OldEnough = (r : Fact) → In r rs → (e : Edge) → In e edges → (w : Fact) → In w ws → Seen r e w → w.version ≤ r.version

    pub all_consistent : OldEnough → ConsistentSnapshots h
    all_consistent g t u x k m a d b =
        g (fact t x k) (told.read_in t x k a) (edge t u) (complete edges closed d) (fact u x m) (told.wrote_in u x m b) (refl, (refl, refl))

    pub old_enough : ConsistentSnapshots h → OldEnough
    old_enough g r i e j w k (p, (q, s)) =
        g r.who e.to r.card r.version w.version (told.in_read r i)
        (subst (λ t. Depends h t e.to) (sym p) (sound n e j))
        (subst (λ x. h.Wrote e.to x w.version) (sym s) (subst (λ u. h.Wrote u w.card w.version) (sym q) (told.in_wrote w k)))

    abbrev pub consistent? : Dec (ConsistentSnapshots h)
    consistent? =
        like? all_consistent old_enough
        (all? (λ r. (e : Edge) → In e edges → (w : Fact) → In w ws → Seen r e w → w.version ≤ r.version) rs
        (λ r. all? (λ e. (w : Fact) → In w ws → Seen r e w → w.version ≤ r.version) edges
        (λ e. all? (λ w. Seen r e w → w.version ≤ r.version) ws
        (λ w. if? (both? (eq? r.who e.from) (both? (eq? e.to w.who) (eq? r.card w.card))) (le? w.version r.version)))))

    -- two writes of one card by committed transactions, neither of which depends on the other
    abbrev Apart : Fact → Fact → Type 0
    Apart v w =
        (v.card ≡ w.card) × ((In v.who ds × In w.who ds)
        × ((v.who ≡ w.who → ⊥) × ((Depends h v.who w.who → ⊥) × (Depends h w.who v.who → ⊥))))

    abbrev apart? : (v w : Fact) → Dec (Apart v w)
    apart? v w =
        both? (eq? v.card w.card) (both? (both? (in? eq? v.who ds) (in? eq? w.who ds))
        (both? (not? (eq? v.who w.who)) (both? (not? (depends? v.who w.who)) (not? (depends? w.who v.who)))))

    abbrev NoneApart : Type 0
    NoneApart = (v : Fact) → In v ws → (w : Fact) → In w ws → Apart v w → ⊥

    pub all_conflict_free : NoneApart → WriteConflictFree h
    all_conflict_free g c =
        let v = fact c.one c.card c.one_version in
        let w = fact c.other c.card c.other_version in
        g v (told.wrote_in c.one c.card c.one_version c.one_wrote)
        w (told.wrote_in c.other c.card c.other_version c.other_wrote)
        (refl, ((told.done_in c.one c.one_done, told.done_in c.other c.other_done), (c.two, (c.apart.forth, c.apart.back))))

    pub none_apart : WriteConflictFree h → NoneApart
    none_apart g v i w j (x, ((a, b), (two, (forth, back)))) =
        g (record {
          one = v.who;
          other = w.who;
          two = two;
          one_done = told.in_done v.who a;
          other_done = told.in_done w.who b;
          card = v.card;
          one_version = v.version;
          other_version = w.version;
          one_wrote = told.in_wrote v i;
          other_wrote = subst (λ c. h.Wrote w.who c w.version) (sym x) (told.in_wrote w j);
          apart = record { forth = forth; back = back };
        })

    abbrev pub conflict_free? : Dec (WriteConflictFree h)
    conflict_free? =
        like? all_conflict_free none_apart
        (all? (λ v. (w : Fact) → In w ws → Apart v w → ⊥) ws (λ v. all? (λ w. Apart v w → ⊥) ws (λ w. not? (apart? v w))))

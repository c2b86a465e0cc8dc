use Rattle.std.proofs.Common.{◌≡◌, ℕ, suc, Bool, true, cond, List, [], ◌∷◌, ◌++◌, length, Ok, sym, ap, ◌∙◌, subst, add-one, arith}
use Rattle.std.proofs.lemmas.Bool.Decides.{nat_tests}
use Rattle.records.specs.declared.line.Line.{Line}
use Rattle.records.specs.Format.{decoded}
use Rattle.records.specs.Parts.{part}
use Rattle.reach.specs.Paths.{edges}
use Rattle.scan.specs.Scanning.{node, Seen}
use Rattle.scan.proofs.Scans.{read_there, readable_more, seen_more}
use Rattle.scan.proofs.told.Told.take.Goals as goal

pub invariant_of-self : goal.invariant_of-self
invariant_of-self c =
    let s = c.args.self.now in
    let bs = s.file.now in
    let n = s.count in
    let es = edges s.links in
    let line = c.in_ok-line.line in
    let t = line.transaction in
    let is : decoded (part bs n) ≡ Ok line = ap decoded (sym c.requires.next) ∙ read_there n (decoded c.args.bytes.now) line (sym c.in_ok-line.was ∙ c.decode_at.ensures) in
    let by : (l : Line) → decoded (part bs n) ≡ Ok l → l.transaction ≡ t = λ l e. let same : l ≡ line = cc in ap (λ (x : Line). x.transaction) same in
    let long : length es ≡ n = s.seen.each in
    let took : c.add.result ≡ true = c.add.ensures.taken ∙ grind (arith, nat_tests) in
    let pushed : edges c.add.new.self ≡ es ++ (node t.0, n) ∷ [] =
    c.add.ensures.added ∙ ap (λ (b : Bool). cond b (es ++ (c.node_of.result, n) ∷ []) es) took ∙ ap (λ (m : ℕ). es ++ (m, n) ∷ []) c.node_of.ensures in
    record {
      within = omega (arith, c.requires.within);
      few = s.few;
      good = readable_more bs n line s.good is;
      seen = rw add-one (subst (λ (xs : List (ℕ × ℕ)). Seen bs (suc n) xs) (sym pushed) (seen_more bs n es t s.seen by));
    }

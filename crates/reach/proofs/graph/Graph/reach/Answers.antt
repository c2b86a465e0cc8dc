use Rattle.std.proofs.Common.{ℕ, List, length, ap, ◌∙◌, subst}
use Rattle.reach.specs.Paths.{edges, Marked, marks_from}
use Rattle.reach.proofs.SearchLaws.{none_marked}
use Rattle.reach.proofs.graph.Graph.reach.Goals as goal

pub search-requires : goal.search-requires
search-requires c = record {
  clear = λ b m. none_marked (length c.args.marks.now) b (subst (λ (xs : List ℕ). Marked xs b) (c.fill.ensures.after (λ y e. e)) m);
  empty = c.new-queue.ensures;
}

pub returns : goal.returns
returns c = record {
  marks = c.search.ensures.marks ∙ ap (marks_from (edges c.args.self.now) c.args.from) c.fill.ensures.len;
  reached = c.search.ensures.reached;
}

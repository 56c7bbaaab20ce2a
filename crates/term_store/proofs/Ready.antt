-- Formulas that are ready to be planted.
use Rattle.std.proofs.Common.{◌≡◌, ℕ, true, ap, ◌∙◌, List}
use Rattle.net_model.specs.Formula.{Formula, Never, Input, Named, Min, Max, Lt, Inc}
use Rattle.term_store.specs.declared.node.Node.{Node}
use Rattle.term_store.specs.declared.node.Node.TheVariants as node
use Rattle.term_store.specs.Nodes.{holds}
use Rattle.term_store.specs.Trees.{IsPrefix}
use Rattle.term_store.specs.Planting.{IsReady}
use Rattle.term_store.proofs.Room.{holds_append}

pub holds_more : (ns ms : List Node) (n : Node) → IsPrefix ns ms → holds ns n ≡ true → holds ms n ≡ true
holds_more ns ms n p e = ap (λ xs. holds xs n) p.1 ∙ holds_append ns p.0 n e

-- what is ready stays so
pub ready_more : (ns ms : List Node) (k : ℕ) (f : Formula) → IsPrefix ns ms → IsReady ns k f → IsReady ms k f
ready_more ns ms k Never p r = tt
ready_more ns ms k (Input i) p r = (r.0, holds_more ns ms (node.Input i) p r.1)
ready_more ns ms k (Named j) p r = r
ready_more ns ms k (Min a b) p r = (ready_more ns ms k a p r.0, ready_more ns ms k b p r.1)
ready_more ns ms k (Max a b) p r = (ready_more ns ms k a p r.0, ready_more ns ms k b p r.1)
ready_more ns ms k (Lt a b) p r = (ready_more ns ms k a p r.0, ready_more ns ms k b p r.1)
ready_more ns ms k (Inc a c) p r = (ready_more ns ms k a p r.0, r.1)

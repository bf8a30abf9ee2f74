-- One more task that may call, with its queues.
use Rattle.std.proofs.Common.{◌≡◌, ℕ, zero, suc, ◌-◌, ◌<◌, false, ◌||◌, List, [], ◌∷◌, ◌++◌, length, get_or, map, Option, None, is_some, cond}
use Rattle.std.proofs.Common.{refl, ap, sym, ◌∙◌, inl, inr, arith, length-append, replicate}
use Rattle.std.specs.List.{sum_by}
use Rattle.std.proofs.Math.Bool.{or-false}
use Rattle.std.proofs.lemmas.Bool.{cases_lt}
use Rattle.std.proofs.lemmas.List.{map-append, get_or_append_left, get_or-append_right, get_or-replicate, length-replicate}
use Rattle.std.proofs.lemmas.List.Folds.{list_any-append}
use Rattle.std.proofs.lemmas.List.Sums.{sum_by-append, sum_by-cons}
use Rattle.ada_tables.specs.declared.nodes.Node.{Node}
use Rattle.ada_tables.specs.declared.queues.Queue.{Queue}
use Rattle.ada_tables.specs.internal.Nodes.{key_of}
use Rattle.ada_tables.specs.Queues.{QueuedCall, waits_in, waits}
use Rattle.ada_tables.specs.Links.{followed, calls_in}
use Rattle.ada_tables.specs.internal.Links.{Place, IsChain, IsQueue, AreOwn, AreLinked, no_queue}

-- one caller more without a node changes no caller's key
pub one_more : (keys : List (Option ℕ)) (caller : ℕ) → key_of (keys ++ None ∷ []) caller ≡ key_of keys caller
one_more [] zero = refl
one_more [] (suc caller) = refl
one_more (first ∷ rest) zero = refl
one_more (first ∷ rest) (suc caller) = one_more rest caller

no_calls : (nodes : List (Option Node)) → calls_in nodes no_queue ≡ []
unfolding followed
no_calls nodes = refl

map_none : (nodes : List (Option Node)) (many : ℕ) → map (calls_in nodes) (replicate many no_queue) ≡ replicate many []
map_none nodes zero = refl
map_none nodes (suc many) = rw (no_calls nodes, map_none nodes many) refl

idle_none : (task many : ℕ) → waits task (replicate many []) ≡ false
idle_none task zero = refl
idle_none task (suc many) = idle_none task many

len_none : (many : ℕ) → sum_by (λ (queue : Queue). queue.len) (replicate many no_queue) ≡ 0
len_none zero = refl
len_none (suc many) = omega (arith, sum_by-cons (λ (queue : Queue). queue.len) no_queue (replicate many no_queue), len_none many)

module _ (nodes : List (Option Node)) (keys : List (Option ℕ)) (queues : List Queue) (many : ℕ) (linked : AreLinked nodes keys queues) where
  abbrev with_caller : List (Option ℕ)
  with_caller = keys ++ None ∷ []

  pub grown_calls : map (calls_in nodes) (queues ++ replicate many no_queue) ≡ map (calls_in nodes) queues ++ replicate many []
  grown_calls =
      map-append (calls_in nodes) queues (replicate many no_queue)
      ∙ ap (λ (back : List (List QueuedCall)). map (calls_in nodes) queues ++ back) (map_none nodes many)

  each_grown : (slot : ℕ) → slot < length (queues ++ replicate many no_queue)
      → (places : List Place) × IsQueue nodes slot (get_or (queues ++ replicate many no_queue) slot no_queue) places
  unfolding IsChain
  each_grown slot within =
      elim (cases_lt slot (length queues)) [
        | inl old ↦ ((linked.each slot old).0, rw (get_or_append_left queues (replicate many no_queue) no_queue slot old) (linked.each slot old).1)
        | inr past ↦
            let low : slot - length queues < many = omega (arith, length-append queues (replicate many no_queue), length-replicate many no_queue) in (
              [],
              rw (
                get_or-append_right queues (replicate many no_queue) (length queues) slot no_queue refl past,
                get_or-replicate many (slot - length queues)
                    no_queue no_queue low,
              )
                  (record { len = refl; first = refl; last = refl; chain = tt }),
            )
      ]

  own_grown : AreOwn nodes with_caller
  own_grown =
      record {
        leads = λ caller key has. linked.own.leads caller key (sym (one_more keys caller) ∙ has);
        back = λ key node has. one_more keys node.caller ∙ linked.own.back key node has;
      }

  pub grown_linked : length keys < 256 → AreLinked nodes with_caller (queues ++ replicate many no_queue)
  grown_linked few =
      record {
        each = each_grown;
        own = own_grown;
        waiting = λ task. rw (one_more keys task, grown_calls)
            (linked.waiting task ∙ sym (list_any-append (waits_in task) (map (calls_in nodes) queues) (replicate many [])
            ∙ ap (λ b. waits task (map (calls_in nodes) queues) || b) (idle_none task many) ∙ or-false (waits task (map (calls_in nodes) queues))));
        total =
            omega (
              arith,
              linked.total,
              sum_by-append (λ (queue : Queue). queue.len) queues (replicate many no_queue),
              len_none many,
              sum_by-append
                  (λ (key : Option ℕ). cond (is_some key) 1 0) keys (None ∷ []),
            );
        few = omega (arith, length-append keys (None ∷ []));
      }

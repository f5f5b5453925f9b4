-- Document 01, 'Numbers of refusal': its column of examples, and what the calls leave of N, as one statement about the definitions of the calls; with
-- edges of these definitions: one node, the largest K, the book's order. Its proof, by computation, is `examples` of proofs/Examples.antt.
-- Assumes nothing.
use Rattle.std.specs.Prelude.{Ok, Err, ℕ, ◌≡◌, true, false, List, [], ◌∷◌, replicate}
use Rattle.network.specs.Network.{Network, network}
use Rattle.network.specs.Check.{network_number}
use Rattle.network.specs.Distance.{NONE}
use Rattle.network.specs.Cases.{roads, points}
use Rattle.conditions.specs.declared.kind.Kind.TheVariants.{Insert, Remove}
use Rattle.conditions.specs.Conditions.{table_k_number}
use Rattle.numbers.specs.Numbers.{build_number, table_query_number, change_number}
use Rattle.site_calls.specs.Distances.{distances_outcome}
use Rattle.site_calls.specs.Nearest.{nearest_outcome}
use Rattle.site_calls.specs.Verify.{verify_outcome}
use Rattle.site_calls.specs.Eager.{eager_outcome, short_outcome}
use Rattle.site_calls.specs.Lazy.{lazy_outcome}
use Rattle.table_calls.specs.TableCheck.{table_check_answer}
use Rattle.table_calls.specs.Build.{build_outcome}
use Rattle.demands.specs.Book.{book_answers}
use Rattle.conditions.specs.Values.{found_list}

-- N; a scratch of S entries for m = 2, of any contents; six old answers; seven old visits; and the table of N with K = 2
abbrev pub N : Network
N = roads 7

abbrev pub scratch : List ℕ
scratch = replicate 352 9

abbrev pub old : List ℕ
old = replicate 6 9

abbrev pub steps : List ℕ
steps = replicate 7 8

abbrev pub ids : List ℕ
ids = 2 ∷ 4 ∷ 2 ∷ 4 ∷ 2 ∷ 4 ∷ 4 ∷ 2 ∷ 4 ∷ 2 ∷ 5 ∷ NONE ∷ []

abbrev pub distances : List ℕ
distances = 7 ∷ 8 ∷ 3 ∷ 10 ∷ 0 ∷ 7 ∷ 3 ∷ 10 ∷ 0 ∷ 7 ∷ 0 ∷ NONE ∷ []

-- a star: nodes 1 and 2 are both 5 from node 0
abbrev pub star : Network
star = network (0 ∷ 2 ∷ 3 ∷ 4 ∷ []) (1 ∷ 2 ∷ 0 ∷ 0 ∷ []) (5 ∷ 5 ∷ 5 ∷ 5 ∷ [])

-- two nodes, 4 apart
abbrev pub two : Network
two = network (0 ∷ 1 ∷ 2 ∷ []) (1 ∷ 0 ∷ []) (4 ∷ 4 ∷ [])

-- one node, without a road
abbrev pub lone : Network
lone = network (0 ∷ 0 ∷ []) [] []

pub record Examples : Type 0 where
  -- 1: 'starts of 1 entry'
  pub no_1 : network_number (network (0 ∷ []) [] []) ≡ 1
  -- 2: 'starts 0, 2, 1'
  pub no_2 : network_number (network (0 ∷ 2 ∷ 1 ∷ []) (1 ∷ []) (4 ∷ [])) ≡ 2
  -- 3: 'n = 2, node 0 to 0'
  pub no_3 : network_number (network (0 ∷ 1 ∷ 1 ∷ []) (0 ∷ []) (4 ∷ [])) ≡ 3
  -- 4: 'weight 65,536'
  pub no_4 : network_number (network (0 ∷ 1 ∷ 2 ∷ []) (1 ∷ 0 ∷ []) (65536 ∷ 65536 ∷ [])) ≡ 4
  -- 5: '0 to 1 of 4, 1 to 0 of 5'
  pub no_5 : network_number (network (0 ∷ 1 ∷ 2 ∷ []) (1 ∷ 0 ∷ []) (4 ∷ 5 ∷ [])) ≡ 5
  -- 6: 'N, byte 16' (Ask 8), of nearest: 'changes no buffer'
  pub no_6 : nearest_outcome N (0 ∷ 0 ∷ 16 ∷ 0 ∷ 1 ∷ 1 ∷ []) 0 NONE 2 scratch old old
      ≡ record { answer = Err 6; scratch = scratch; ids = old; distances = old }
  -- 7: 'N, node 6', of distances
  pub no_7 : distances_outcome N 6 scratch old ≡ record { number = 7; scratch = scratch; answers = old }
  -- 8: 'N, K = 2, 11 ids', of build
  pub no_8 : build_number N points 2 scratch (replicate 11 0) (replicate 12 0) ≡ 8
  -- 9: 'K = 2, k = 2', of the table query
  pub no_9 : table_query_number N points 0 2 2 ids distances scratch old ≡ 9
  -- 10: 'N, 5 answer places', of lazy
  pub no_10 : lazy_outcome N points 0 2 scratch (replicate 5 9) ≡ record { answer = Err 10; scratch = scratch; answers = replicate 5 9 }
  -- 11: 'N, remove 0' (Ask 8); 'insert at 15' too, and verify at 0; a second locker at node 2 is none
  pub no_11 : change_number Remove N points 0 2 scratch ids distances ≡ 11
  pub at_15 : change_number Insert N (0 ∷ 0 ∷ 15 ∷ 0 ∷ 1 ∷ 1 ∷ []) 2 2 scratch ids distances ≡ 11
  pub at_0 : verify_outcome N points 0 2 1 scratch ≡ record { answer = Err 11; scratch = scratch }
  pub second : change_number Insert N points 2 2 scratch ids distances ≡ 0
  -- 12: 'N, q = 0, k = 2, limit 3': '12 alone leaves the scratch all zero'; it changes no visit
  pub no_12 : eager_outcome N points 0 2 3 scratch old steps
      ≡ record { search = record { answer = Err 12; scratch = replicate 352 0; answers = old }; visits = steps }
  -- 'Limit 4 answers P2'; 'Answer arrays hold the answer, then their old entries'; so does the array for the visits (Ask 4)
  pub limit_4 : eager_outcome N points 0 2 4 scratch old steps
      ≡ record {
        search = record { answer = Ok (found_list 2 4); scratch = replicate 352 0; answers = 2 ∷ 4 ∷ 9 ∷ 9 ∷ 9 ∷ 9 ∷ [] };
        visits = 0 ∷ 1 ∷ 3 ∷ 2 ∷ 8 ∷ 8 ∷ 8 ∷ [];
      }
  -- Ask 4: '10 if the new list's array is shorter than n'; 'the short query doesn't' list them, and has no such array; 'P1 as a short query gives 2, 4'
  -- (Ask 10)
  pub few_visits : eager_outcome N points 0 2 4 scratch old (replicate 5 8)
      ≡ record { search = record { answer = Err 10; scratch = scratch; answers = old }; visits = replicate 5 8 }
  pub short_P1 : short_outcome N points 0 (replicate 72 9) old
      ≡ record { answer = Ok (found_list 2 4); scratch = replicate 72 0; answers = 2 ∷ 4 ∷ 9 ∷ 9 ∷ 9 ∷ 9 ∷ [] }
  -- one word of scratch less than S
  pub short : lazy_outcome N points 0 2 (replicate 351 9) old ≡ record { answer = Err 10; scratch = replicate 351 9; answers = old }
  -- Ask 5: '12 × n entries for every k', and one word less; lazy asks S; two nodes of which one has 15 lockers: the other alone is expanded
  pub in_72 : eager_outcome N points 0 16 65535 (replicate 72 9) old steps
      ≡ record {
        search = record { answer = Ok (found_list 2 5); scratch = replicate 72 0; answers = 2 ∷ 4 ∷ 9 ∷ 9 ∷ 9 ∷ 9 ∷ [] };
        visits = 0 ∷ 1 ∷ 3 ∷ 2 ∷ 4 ∷ 8 ∷ 8 ∷ [];
      }
  pub in_71 : eager_outcome N points 0 1 65535 (replicate 71 9) old steps
      ≡ record { search = record { answer = Err 10; scratch = replicate 71 9; answers = old }; visits = steps }
  pub verify_in_72 : verify_outcome N points 2 0 16 (replicate 72 9) ≡ record { answer = Ok true; scratch = replicate 72 0 }
  pub verify_in_71 : verify_outcome N points 2 0 1 (replicate 71 9) ≡ record { answer = Err 10; scratch = replicate 71 9 }
  pub lazy_in_72 : lazy_outcome N points 0 2 (replicate 72 9) old ≡ record { answer = Err 10; scratch = replicate 72 9; answers = old }
  pub in_24 : eager_outcome two (0 ∷ 15 ∷ []) 0 3 65535 (replicate 24 9) (9 ∷ 9 ∷ []) (8 ∷ 8 ∷ [])
      ≡ record { search = record { answer = Ok (found_list 0 1); scratch = replicate 24 0; answers = 9 ∷ 9 ∷ [] }; visits = 0 ∷ 8 ∷ [] }
  -- the first condition met: 6 before 7, 9 and 10
  pub first : lazy_outcome N (replicate 5 0) 6 0 [] [] ≡ record { answer = Err 6; scratch = []; answers = [] }
  -- 'Distances from a node: n entries, NONE where none.'
  pub from_0 : distances_outcome N 0 scratch old
      ≡ record { number = 0; scratch = replicate 352 0; answers = 0 ∷ 4 ∷ 7 ∷ 5 ∷ 8 ∷ NONE ∷ [] }
  -- Nearest: 'd(node, p) < e': e = 0 finds nothing; 'by distance then node', 'cut after the first k'
  pub none_nearer : nearest_outcome N points 2 0 2 scratch old old
      ≡ record { answer = Ok (found_list 0 0); scratch = replicate 352 0; ids = old; distances = old }
  pub by_node : nearest_outcome star (0 ∷ 1 ∷ 1 ∷ []) 0 NONE 1 (replicate 104 9) (9 ∷ 9 ∷ []) (9 ∷ [])
      ≡ record { answer = Ok (found_list 1 0); scratch = replicate 104 0; ids = 1 ∷ 9 ∷ []; distances = 5 ∷ [] }
  -- Ask 8: 'Rows and the nearest call repeat a node for each locker'; 'a locker has its companions on the node as others at distance 0'
  pub repeats : nearest_outcome N (0 ∷ 0 ∷ 2 ∷ 0 ∷ 1 ∷ 1 ∷ []) 0 NONE 2 scratch old old
      ≡ record { answer = Ok (found_list 2 0); scratch = replicate 352 0; ids = 2 ∷ 2 ∷ 9 ∷ 9 ∷ 9 ∷ 9 ∷ []; distances = 7 ∷ 7 ∷ 9 ∷ 9 ∷ 9 ∷ 9 ∷ [] }
  pub companion : verify_outcome N (0 ∷ 0 ∷ 2 ∷ 0 ∷ 1 ∷ 1 ∷ []) 2 0 1 scratch ≡ record { answer = Ok false; scratch = replicate 352 0 }
  -- Ask 6: 'Verify of the point on q says no', and of several there; where none is, 11 as before
  pub on_site : verify_outcome N points 2 2 1 scratch ≡ record { answer = Ok false; scratch = replicate 352 0 }
  pub two_on_site : verify_outcome N (0 ∷ 0 ∷ 2 ∷ 0 ∷ 1 ∷ 1 ∷ []) 2 2 16 (replicate 72 9) ≡ record { answer = Ok false; scratch = replicate 72 0 }
  pub none_on_site : verify_outcome N points 0 0 1 scratch ≡ record { answer = Err 11; scratch = scratch }
  -- Verify, of P1: 4 is no nearer to 2 than site 0; of P7's road it is
  pub equal : verify_outcome N points 2 0 1 scratch ≡ record { answer = Ok true; scratch = replicate 352 0 }
  pub nearer : verify_outcome (roads 6) points 2 0 1 scratch ≡ record { answer = Ok false; scratch = replicate 352 0 }
  -- Table check: 'yes exactly when both arrays are the table'; another distance; half a padding
  pub yes : table_check_answer N points 2 ids distances ≡ Ok true
  pub another : table_check_answer N points 2 ids (7 ∷ 8 ∷ 3 ∷ 10 ∷ 0 ∷ 7 ∷ 3 ∷ 9 ∷ 0 ∷ 7 ∷ 0 ∷ NONE ∷ []) ≡ Ok false
  pub half : table_check_answer N points 2 ids (7 ∷ 8 ∷ 3 ∷ 10 ∷ 0 ∷ 7 ∷ 3 ∷ 10 ∷ 0 ∷ 7 ∷ 0 ∷ 0 ∷ []) ≡ Ok false
  -- Ask 8: with a second locker at 2 it is another table; 'repeat a node for each locker', 'cut after K places'
  pub missing : table_check_answer N (0 ∷ 0 ∷ 2 ∷ 0 ∷ 1 ∷ 1 ∷ []) 2 ids distances ≡ Ok false
  pub copies : table_check_answer N (0 ∷ 0 ∷ 2 ∷ 0 ∷ 1 ∷ 1 ∷ []) 2 (2 ∷ 2 ∷ 2 ∷ 2 ∷ 2 ∷ 2 ∷ 4 ∷ 2 ∷ 4 ∷ 2 ∷ 5 ∷ NONE ∷ []) (7 ∷ 7 ∷ 3 ∷ 3 ∷ 0 ∷ 0 ∷ 3 ∷ 10 ∷ 0 ∷ 7 ∷ 0 ∷ NONE ∷ []) ≡ Ok true
  -- one node with a locker: it is expanded, and not listed for a site on it; the rest of its row is NONE
  pub lone_eager : eager_outcome lone (1 ∷ []) 0 1 1 (replicate 12 9) (9 ∷ []) (8 ∷ [])
      ≡ record { search = record { answer = Ok (found_list 0 1); scratch = replicate 12 0; answers = 9 ∷ [] }; visits = 0 ∷ [] }
  pub lone_built : build_outcome lone (1 ∷ []) 2 (replicate 32 9) (9 ∷ 9 ∷ []) (9 ∷ 9 ∷ [])
      ≡ record { number = 0; scratch = replicate 32 0; ids = 0 ∷ NONE ∷ []; distances = 0 ∷ NONE ∷ [] }
  -- 'k from 1 to K - 1', with K = 17
  pub k_16 : table_k_number 16 17 ≡ 0
  pub k_17 : table_k_number 17 17 ≡ 9
  -- the plain book 'tries 7, 8, 10 and 11 in this order': another K, a scratch that is one short, node 1; one more, one less twice, and none left
  pub book : book_answers lone 2 (1 ∷ [])
      (record { kind = Remove; node = 0; places = 3; scratch_length = 40 }
      ∷ record { kind = Remove; node = 0; places = 2; scratch_length = 31 }
      ∷ record { kind = Remove; node = 1; places = 0; scratch_length = 0 }
      ∷ record { kind = Insert; node = 0; places = 2; scratch_length = 32 }
      ∷ record { kind = Remove; node = 0; places = 2; scratch_length = 32 }
      ∷ record { kind = Remove; node = 0; places = 2; scratch_length = 99 }
      ∷ record { kind = Remove; node = 0; places = 2; scratch_length = 32 }
      ∷ [])
      ≡ record { number = 8; changed = 0 }
      ∷ record { number = 10; changed = 0 }
      ∷ record { number = 7; changed = 0 }
      ∷ record { number = 0; changed = 1 }
      ∷ record { number = 0; changed = 1 }
      ∷ record { number = 0; changed = 1 }
      ∷ record { number = 11; changed = 0 }
      ∷ []

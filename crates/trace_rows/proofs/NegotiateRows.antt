-- They are traces, and heard, by computation.
use Rattle.std.proofs.Common.{true, false, [], ◌∷◌, ◌++◌, reverse, codes, Some, refl, inl}
use Rattle.base64.proofs.OnLiterals.{base64_on_literals}
use Rattle.httparse.proofs.OnLiterals.{httparse_on_literals}
use Rattle.md5.specs.Md5.{block_words, rounds, compress, hash_after, digest_bytes, md5}
use Rattle.sha2.specs.Sha256.{first_words, schedule, rounds as rounds256, compress as compress256, hash_after as hash_after256, digest_bytes as digest_bytes256, sha256}
use Rattle.hex.specs.Hex.{encode_with}
use Rattle.digest_handler.specs.Credentials.{first_fields}
use Rattle.std.specs.Fmt.{digits}
use Rattle.spaces.specs.declared.site.Target.TheVariants.{Server}
use Rattle.spaces.specs.declared.space.Scheme.TheVariants.{Negotiate}
use Rattle.auth_events.specs.declared.journal.Call.TheVariants.{Begin, Preempt, Select, End}
use Rattle.link_trait.specs.Links.{stream_in}
use Rattle.auth_runs.specs.declared.event.Why.TheVariants.{BoundLost}
use Rattle.auth_runs.specs.declared.event.Outcome.TheVariants.{Answered, Refused}
use Rattle.auth_runs.specs.declared.event.Event.TheVariants.{Headed, LinkLost, Ended}
use Rattle.trace_rule.specs.Challenges.{challenges_in}
use Rattle.trace_rule.specs.NextNonces.{next_in}
use Rattle.trace_rule.specs.Traces.{IsTrace}
use Rattle.trace_rule.specs.Heard.{ended, reply_in, reply_len, fault_in, IsHeard}
use Rattle.trace_rows.specs.NegotiateSessions.{three_tokens_setting, three_tokens_links, three_tokens_1_request, three_tokens_1, link_lost_twice_setting, link_lost_twice_links, link_lost_twice_1_request, link_lost_twice_1}

pub three_tokens_1_is_trace : IsTrace (three_tokens_setting 1 three_tokens_1_request) three_tokens_1
unfolding digits base64_on_literals block_words rounds compress hash_after digest_bytes md5 encode_with first_words schedule rounds256 compress256 hash_after256 digest_bytes256 sha256 challenges_in next_in first_fields
three_tokens_1_is_trace = inl (((((((((((((((((((((tt, (refl {a = Begin}, refl {a = true})), (refl {a = (Preempt Server)}, refl {a = true})), refl {a = 1}), refl {a = Headed 1 (codes "GET / HTTP/1.1" ++ (13 ∷ (10 ∷ (codes "Host: s.example" ++ (13 ∷ (10 ∷ (codes "Connection: close" ++ (13 ∷ (10 ∷ (13 ∷ (10 ∷ [])))))))))))}), (refl {a = 1}, refl {a = true})), (refl {a = (Select 1 0)}, refl {a = true})), refl {a = Server}), refl {a = 2}), refl {a = Headed 2 (codes "GET / HTTP/1.1" ++ (13 ∷ (10 ∷ (codes "Host: s.example" ++ (13 ∷ (10 ∷ (codes "Authorization: Negotiate b25l" ++ (13 ∷ (10 ∷ (codes "Connection: keep-alive" ++ (13 ∷ (10 ∷ (13 ∷ (10 ∷ []))))))))))))))}), (refl {a = 2}, refl {a = true})), refl {a = LinkLost 2}), refl {a = Server}), refl {a = 3}), refl {a = Headed 3 (codes "GET / HTTP/1.1" ++ (13 ∷ (10 ∷ (codes "Host: s.example" ++ (13 ∷ (10 ∷ (codes "Authorization: Negotiate dHdv" ++ (13 ∷ (10 ∷ (codes "Connection: keep-alive" ++ (13 ∷ (10 ∷ (13 ∷ (10 ∷ []))))))))))))))}), (refl {a = 3}, refl {a = true})), refl {a = Server}), refl {a = Headed 3 (codes "GET / HTTP/1.1" ++ (13 ∷ (10 ∷ (codes "Host: s.example" ++ (13 ∷ (10 ∷ (codes "Authorization: Negotiate dGhyZWU=" ++ (13 ∷ (10 ∷ (codes "Connection: keep-alive" ++ (13 ∷ (10 ∷ (13 ∷ (10 ∷ []))))))))))))))}), (refl {a = 3}, refl {a = true})), (refl {a = End}, refl {a = true})), refl {a = Ended (Answered 200)}), refl {a = true})

pub three_tokens_1_is_heard : IsHeard (λ name. ended (stream_in three_tokens_links name)) three_tokens_1_request.method 1 (reverse three_tokens_1)
unfolding httparse_on_literals reply_in reply_len fault_in
three_tokens_1_is_heard = ((((((((((((((((((((tt, tt), tt), tt), tt), refl {a = Some (record { code = 401; stays = true; body = 0; fields = ((codes "Negotiate") ∷ []); server_info = []; proxy_info = [] })}), tt), tt), tt), tt), refl {a = Some (record { code = 401; stays = false; body = 0; fields = ((codes "Negotiate cjE=") ∷ []); server_info = []; proxy_info = [] })}), tt), tt), tt), tt), refl {a = Some (record { code = 401; stays = true; body = 0; fields = ((codes "Negotiate cjI=") ∷ []); server_info = []; proxy_info = [] })}), tt), tt), refl {a = Some (record { code = 200; stays = true; body = 2; fields = []; server_info = []; proxy_info = [] })}), tt), tt)

pub link_lost_twice_1_is_trace : IsTrace (link_lost_twice_setting 1 link_lost_twice_1_request) link_lost_twice_1
unfolding digits base64_on_literals block_words rounds compress hash_after digest_bytes md5 encode_with first_words schedule rounds256 compress256 hash_after256 digest_bytes256 sha256 challenges_in next_in first_fields
link_lost_twice_1_is_trace = inl (((((((((((((((((((tt, (refl {a = Begin}, refl {a = true})), (refl {a = (Preempt Server)}, refl {a = true})), refl {a = 1}), refl {a = Headed 1 (codes "GET / HTTP/1.1" ++ (13 ∷ (10 ∷ (codes "Host: s.example" ++ (13 ∷ (10 ∷ (codes "Connection: close" ++ (13 ∷ (10 ∷ (13 ∷ (10 ∷ [])))))))))))}), (refl {a = 1}, refl {a = true})), (refl {a = (Select 1 0)}, refl {a = true})), refl {a = Server}), refl {a = 2}), refl {a = Headed 2 (codes "GET / HTTP/1.1" ++ (13 ∷ (10 ∷ (codes "Host: s.example" ++ (13 ∷ (10 ∷ (codes "Authorization: Negotiate b25l" ++ (13 ∷ (10 ∷ (codes "Connection: keep-alive" ++ (13 ∷ (10 ∷ (13 ∷ (10 ∷ []))))))))))))))}), (refl {a = 2}, refl {a = true})), refl {a = LinkLost 2}), refl {a = Server}), refl {a = 3}), refl {a = Headed 3 (codes "GET / HTTP/1.1" ++ (13 ∷ (10 ∷ (codes "Host: s.example" ++ (13 ∷ (10 ∷ (codes "Authorization: Negotiate dHdv" ++ (13 ∷ (10 ∷ (codes "Connection: keep-alive" ++ (13 ∷ (10 ∷ (13 ∷ (10 ∷ []))))))))))))))}), (refl {a = 3}, refl {a = true})), refl {a = LinkLost 3}), (refl {a = End}, refl {a = true})), refl {a = Ended (Refused 401 BoundLost)}), refl {a = true})

pub link_lost_twice_1_is_heard : IsHeard (λ name. ended (stream_in link_lost_twice_links name)) link_lost_twice_1_request.method 1 (reverse link_lost_twice_1)
unfolding httparse_on_literals reply_in reply_len fault_in
link_lost_twice_1_is_heard = ((((((((((((((((((tt, tt), tt), tt), tt), refl {a = Some (record { code = 401; stays = true; body = 0; fields = ((codes "Negotiate") ∷ []); server_info = []; proxy_info = [] })}), tt), tt), tt), tt), refl {a = Some (record { code = 401; stays = false; body = 0; fields = ((codes "Negotiate cjE=") ∷ []); server_info = []; proxy_info = [] })}), tt), tt), tt), tt), refl {a = Some (record { code = 401; stays = false; body = 0; fields = ((codes "Negotiate cjI=") ∷ []); server_info = []; proxy_info = [] })}), tt), tt), tt)

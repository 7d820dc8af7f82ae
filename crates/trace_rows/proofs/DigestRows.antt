-- They are traces, and heard, by computation.
use Rattle.std.proofs.Common.{true, [], ◌∷◌, ◌++◌, reverse, codes, Some, refl, inl}
use Rattle.base64.proofs.OnLiterals.{base64_on_literals}
use Rattle.httparse.proofs.OnLiterals.{httparse_on_literals}
use Rattle.md5.specs.Md5.{block_words, rounds, compress, hash_after, digest_bytes, md5}
use Rattle.sha2.specs.Sha256.{first_words, schedule, rounds as rounds256, compress as compress256, hash_after as hash_after256, digest_bytes as digest_bytes256, sha256}
use Rattle.hex.specs.Hex.{encode_with}
use Rattle.digest_handler.specs.Credentials.{first_fields}
use Rattle.std.specs.Fmt.{digits}
use Rattle.spaces.specs.declared.site.Target.TheVariants.{Server}
use Rattle.spaces.specs.declared.space.Scheme.TheVariants.{Digest}
use Rattle.auth_events.specs.declared.journal.Call.TheVariants.{Begin, Preempt, Select, Reject, Renew, Answer, Note, End}
use Rattle.link_trait.specs.Links.{stream_in}
use Rattle.auth_runs.specs.declared.event.Why.TheVariants.{Cancelled as ByCancel}
use Rattle.auth_runs.specs.declared.event.Outcome.TheVariants.{Answered, Refused}
use Rattle.auth_runs.specs.declared.event.Event.TheVariants.{Headed, Ended}
use Rattle.trace_rule.specs.Challenges.{challenges_in}
use Rattle.trace_rule.specs.NextNonces.{next_in}
use Rattle.trace_rule.specs.Traces.{IsTrace}
use Rattle.trace_rule.specs.Heard.{ended, reply_in, reply_len, fault_in, IsHeard}
use Rattle.trace_rows.specs.DigestSessions.{stale_nonce_setting, stale_nonce_links, stale_nonce_1_request, stale_nonce_1, nonce_again_setting, nonce_again_links, nonce_again_1_request, nonce_again_1, nonce_again_2_request, nonce_again_2, next_nonce_setting, next_nonce_links, next_nonce_1_request, next_nonce_1, next_nonce_2_request, next_nonce_2}

pub stale_nonce_1_is_trace : IsTrace (stale_nonce_setting 1 stale_nonce_1_request) stale_nonce_1
unfolding digits base64_on_literals block_words rounds compress hash_after digest_bytes md5 encode_with first_words schedule rounds256 compress256 hash_after256 digest_bytes256 sha256 challenges_in next_in first_fields
stale_nonce_1_is_trace = inl (((((((((((((((((((((tt, (refl {a = Begin}, refl {a = true})), (refl {a = (Preempt Server)}, refl {a = true})), refl {a = 1}), refl {a = Headed 1 (codes "GET / HTTP/1.1" ++ (13 ∷ (10 ∷ (codes "Host: d.example" ++ (13 ∷ (10 ∷ (codes "Connection: close" ++ (13 ∷ (10 ∷ (13 ∷ (10 ∷ [])))))))))))}), (refl {a = 1}, refl {a = true})), (refl {a = (Select 1 1)}, refl {a = true})), refl {a = 1}), (refl {a = 1}, refl {a = 1}, refl {a = true}, refl {a = true})), refl {a = 2}), (refl {a = Server}, refl {a = 1})), refl {a = Headed 2 (codes "GET / HTTP/1.1" ++ (13 ∷ (10 ∷ (codes "Host: d.example" ++ (13 ∷ (10 ∷ (codes "Authorization: Digest username=\"u\", realm=\"d\", nonce=\"a\", uri=\"/\", response=\"2c062ab5bddc0059236b3a2dfa4972c3\", qop=auth, nc=00000001, cnonce=\"35207447f23d120311d8b7ffb079329d\"" ++ (13 ∷ (10 ∷ (codes "Connection: close" ++ (13 ∷ (10 ∷ (13 ∷ (10 ∷ []))))))))))))))}), (refl {a = 2}, refl {a = true})), (refl {a = (Renew (record { space = 1; ordinal = 1 }) 2)}, refl {a = true})), refl {a = 3}), (refl {a = Server}, refl {a = 2})), refl {a = Headed 3 (codes "GET / HTTP/1.1" ++ (13 ∷ (10 ∷ (codes "Host: d.example" ++ (13 ∷ (10 ∷ (codes "Authorization: Digest username=\"u\", realm=\"d\", nonce=\"b\", uri=\"/\", response=\"2435921d39dd853dfc5f030b71a0d00b\", qop=auth, nc=00000001, cnonce=\"70d9427260d2b6f07be9f49e59e344f2\"" ++ (13 ∷ (10 ∷ (codes "Connection: close" ++ (13 ∷ (10 ∷ (13 ∷ (10 ∷ []))))))))))))))}), (refl {a = 3}, refl {a = true})), (refl {a = (Note (record { space = 1; ordinal = 1 }))}, refl {a = true})), (refl {a = End}, refl {a = true})), refl {a = Ended (Answered 200)}), refl {a = true})

pub stale_nonce_1_is_heard : IsHeard (λ name. ended (stream_in stale_nonce_links name)) stale_nonce_1_request.method 1 (reverse stale_nonce_1)
unfolding httparse_on_literals reply_in reply_len fault_in
stale_nonce_1_is_heard = ((((((((((((((((((((tt, tt), tt), tt), tt), refl {a = Some (record { code = 401; stays = true; body = 0; fields = ((codes "Digest realm=\"d\", nonce=\"a\", qop=\"auth\"") ∷ []); server_info = []; proxy_info = [] })}), tt), tt), tt), tt), tt), tt), refl {a = Some (record { code = 401; stays = true; body = 0; fields = ((codes "Digest realm=\"d\", nonce=\"b\", qop=\"auth\", stale=TRUE") ∷ []); server_info = []; proxy_info = [] })}), tt), tt), tt), tt), refl {a = Some (record { code = 200; stays = true; body = 2; fields = []; server_info = []; proxy_info = [] })}), tt), tt), tt)

pub nonce_again_1_is_trace : IsTrace (nonce_again_setting 1 nonce_again_1_request) nonce_again_1
unfolding digits base64_on_literals block_words rounds compress hash_after digest_bytes md5 encode_with first_words schedule rounds256 compress256 hash_after256 digest_bytes256 sha256 challenges_in next_in first_fields
nonce_again_1_is_trace = inl (((((((((((((((((((((((((((((((((((tt, (refl {a = Begin}, refl {a = true})), (refl {a = (Preempt Server)}, refl {a = true})), refl {a = 1}), refl {a = Headed 1 (codes "GET / HTTP/1.1" ++ (13 ∷ (10 ∷ (codes "Host: d.example" ++ (13 ∷ (10 ∷ (codes "Connection: close" ++ (13 ∷ (10 ∷ (13 ∷ (10 ∷ [])))))))))))}), (refl {a = 1}, refl {a = true})), (refl {a = (Select 1 1)}, refl {a = true})), refl {a = 1}), (refl {a = 1}, refl {a = 1}, refl {a = true}, refl {a = true})), refl {a = 2}), (refl {a = Server}, refl {a = 1})), refl {a = Headed 2 (codes "GET / HTTP/1.1" ++ (13 ∷ (10 ∷ (codes "Host: d.example" ++ (13 ∷ (10 ∷ (codes "Authorization: Digest username=\"u\", realm=\"d\", nonce=\"n\", uri=\"/\", response=\"4db3cd29a9eb80c889fe9bbf1cc514ac\", qop=auth, nc=00000001, cnonce=\"35207447f23d120311d8b7ffb079329d\"" ++ (13 ∷ (10 ∷ (codes "Connection: close" ++ (13 ∷ (10 ∷ (13 ∷ (10 ∷ []))))))))))))))}), (refl {a = 2}, refl {a = true})), (refl {a = (Reject 1 1)}, refl {a = true})), (refl {a = (Select 1 1)}, refl {a = true})), refl {a = 2}), (refl {a = 2}, refl {a = 1}, refl {a = true}, refl {a = true})), refl {a = 3}), (refl {a = Server}, refl {a = 1})), refl {a = Headed 3 (codes "GET / HTTP/1.1" ++ (13 ∷ (10 ∷ (codes "Host: d.example" ++ (13 ∷ (10 ∷ (codes "Authorization: Digest username=\"u\", realm=\"d\", nonce=\"n\", uri=\"/\", response=\"a6a600bcf4d925b274a6020f0c44390e\", qop=auth, nc=00000002, cnonce=\"70d9427260d2b6f07be9f49e59e344f2\"" ++ (13 ∷ (10 ∷ (codes "Connection: close" ++ (13 ∷ (10 ∷ (13 ∷ (10 ∷ []))))))))))))))}), (refl {a = 3}, refl {a = true})), (refl {a = (Reject 1 2)}, refl {a = true})), (refl {a = (Select 1 1)}, refl {a = true})), refl {a = 3}), (refl {a = 3}, refl {a = 1}, refl {a = true}, refl {a = true})), refl {a = 4}), (refl {a = Server}, refl {a = 1})), refl {a = Headed 4 (codes "GET / HTTP/1.1" ++ (13 ∷ (10 ∷ (codes "Host: d.example" ++ (13 ∷ (10 ∷ (codes "Authorization: Digest username=\"u\", realm=\"d\", nonce=\"n\", uri=\"/\", response=\"7b36119434c9887667834e2150424b69\", qop=auth, nc=00000003, cnonce=\"fc9cf544d09673da1213f239101ed3c3\"" ++ (13 ∷ (10 ∷ (codes "Connection: close" ++ (13 ∷ (10 ∷ (13 ∷ (10 ∷ []))))))))))))))}), (refl {a = 4}, refl {a = true})), (refl {a = (Reject 1 3)}, refl {a = true})), (refl {a = (Select 1 1)}, refl {a = true})), refl {a = 4}), (refl {a = (Answer 4 0 1)}, refl {a = true})), (refl {a = End}, refl {a = true})), refl {a = Ended (Refused 401 (ByCancel 4))}), refl {a = true})

pub nonce_again_1_is_heard : IsHeard (λ name. ended (stream_in nonce_again_links name)) nonce_again_1_request.method 1 (reverse nonce_again_1)
unfolding httparse_on_literals reply_in reply_len fault_in
nonce_again_1_is_heard = ((((((((((((((((((((((((((((((((((tt, tt), tt), tt), tt), refl {a = Some (record { code = 401; stays = true; body = 0; fields = ((codes "Digest realm=\"d\", nonce=\"n\", qop=\"auth\"") ∷ []); server_info = []; proxy_info = [] })}), tt), tt), tt), tt), tt), tt), refl {a = Some (record { code = 401; stays = true; body = 0; fields = ((codes "Digest realm=\"d\", nonce=\"n\", qop=\"auth\"") ∷ []); server_info = []; proxy_info = [] })}), tt), tt), tt), tt), tt), tt), tt), refl {a = Some (record { code = 401; stays = true; body = 0; fields = ((codes "Digest realm=\"d\", nonce=\"n\", qop=\"auth\"") ∷ []); server_info = []; proxy_info = [] })}), tt), tt), tt), tt), tt), tt), tt), refl {a = Some (record { code = 401; stays = true; body = 0; fields = ((codes "Digest realm=\"d\", nonce=\"n\", qop=\"auth\"") ∷ []); server_info = []; proxy_info = [] })}), tt), tt), tt), tt), tt), tt)

pub nonce_again_2_is_trace : IsTrace (nonce_again_setting 2 nonce_again_2_request) nonce_again_2
unfolding digits base64_on_literals block_words rounds compress hash_after digest_bytes md5 encode_with first_words schedule rounds256 compress256 hash_after256 digest_bytes256 sha256 challenges_in next_in first_fields
nonce_again_2_is_trace = inl ((((((((((((((((tt, (refl {a = Begin}, refl {a = true})), (refl {a = (Preempt Server)}, refl {a = true})), refl {a = 1}), refl {a = Headed 1 (codes "GET / HTTP/1.1" ++ (13 ∷ (10 ∷ (codes "Host: d.example" ++ (13 ∷ (10 ∷ (codes "Connection: close" ++ (13 ∷ (10 ∷ (13 ∷ (10 ∷ [])))))))))))}), (refl {a = 1}, refl {a = true})), (refl {a = (Select 2 2)}, refl {a = true})), refl {a = 5}), (refl {a = 5}, refl {a = 2}, refl {a = true}, refl {a = true})), refl {a = 2}), (refl {a = Server}, refl {a = 1})), refl {a = Headed 2 (codes "GET / HTTP/1.1" ++ (13 ∷ (10 ∷ (codes "Host: d.example" ++ (13 ∷ (10 ∷ (codes "Authorization: Digest username=\"u\", realm=\"e\", nonce=\"n\", uri=\"/\", response=\"e7aa3d12aa4d5874141af2c7215b5ada\", qop=auth, nc=00000004, cnonce=\"ff26306a195ae7edb84ab82a39480ae2\"" ++ (13 ∷ (10 ∷ (codes "Connection: close" ++ (13 ∷ (10 ∷ (13 ∷ (10 ∷ []))))))))))))))}), (refl {a = 2}, refl {a = true})), (refl {a = (Note (record { space = 2; ordinal = 1 }))}, refl {a = true})), (refl {a = End}, refl {a = true})), refl {a = Ended (Answered 200)}), refl {a = true})

pub nonce_again_2_is_heard : IsHeard (λ name. ended (stream_in nonce_again_links name)) nonce_again_2_request.method 2 (reverse nonce_again_2)
unfolding httparse_on_literals reply_in reply_len fault_in
nonce_again_2_is_heard = (((((((((((((((tt, tt), tt), tt), tt), refl {a = Some (record { code = 401; stays = true; body = 0; fields = ((codes "Digest realm=\"e\", nonce=\"n\", qop=\"auth\"") ∷ []); server_info = []; proxy_info = [] })}), tt), tt), tt), tt), tt), tt), refl {a = Some (record { code = 200; stays = true; body = 2; fields = []; server_info = []; proxy_info = [] })}), tt), tt), tt)

pub next_nonce_1_is_trace : IsTrace (next_nonce_setting 1 next_nonce_1_request) next_nonce_1
unfolding digits base64_on_literals block_words rounds compress hash_after digest_bytes md5 encode_with first_words schedule rounds256 compress256 hash_after256 digest_bytes256 sha256 challenges_in next_in first_fields
next_nonce_1_is_trace = inl (((((((((((((((((tt, (refl {a = Begin}, refl {a = true})), (refl {a = (Preempt Server)}, refl {a = true})), refl {a = 1}), refl {a = Headed 1 (codes "GET /a HTTP/1.1" ++ (13 ∷ (10 ∷ (codes "Host: d.example" ++ (13 ∷ (10 ∷ (codes "Connection: close" ++ (13 ∷ (10 ∷ (13 ∷ (10 ∷ [])))))))))))}), (refl {a = 1}, refl {a = true})), (refl {a = (Select 1 1)}, refl {a = true})), refl {a = 1}), (refl {a = 1}, refl {a = 1}, refl {a = true}, refl {a = true})), refl {a = 2}), (refl {a = Server}, refl {a = 1})), refl {a = Headed 2 (codes "GET /a HTTP/1.1" ++ (13 ∷ (10 ∷ (codes "Host: d.example" ++ (13 ∷ (10 ∷ (codes "Authorization: Digest username=\"u\", realm=\"d\", nonce=\"a\", uri=\"/a\", response=\"b0615992079e0795cfe24a9c57f9a99c\", qop=auth, nc=00000001, cnonce=\"35207447f23d120311d8b7ffb079329d\"" ++ (13 ∷ (10 ∷ (codes "Connection: close" ++ (13 ∷ (10 ∷ (13 ∷ (10 ∷ []))))))))))))))}), (refl {a = 2}, refl {a = true})), (refl {a = (Renew (record { space = 1; ordinal = 1 }) 2)}, refl {a = true})), (refl {a = (Note (record { space = 1; ordinal = 1 }))}, refl {a = true})), (refl {a = End}, refl {a = true})), refl {a = Ended (Answered 200)}), refl {a = true})

pub next_nonce_1_is_heard : IsHeard (λ name. ended (stream_in next_nonce_links name)) next_nonce_1_request.method 1 (reverse next_nonce_1)
unfolding httparse_on_literals reply_in reply_len fault_in
next_nonce_1_is_heard = ((((((((((((((((tt, tt), tt), tt), tt), refl {a = Some (record { code = 401; stays = true; body = 0; fields = ((codes "Digest realm=\"d\", nonce=\"a\", qop=\"auth\"") ∷ []); server_info = []; proxy_info = [] })}), tt), tt), tt), tt), tt), tt), refl {a = Some (record { code = 200; stays = true; body = 2; fields = []; server_info = ((codes "nextnonce=\"b\"") ∷ []); proxy_info = [] })}), tt), tt), tt), tt)

pub next_nonce_2_is_trace : IsTrace (next_nonce_setting 2 next_nonce_2_request) next_nonce_2
unfolding digits base64_on_literals block_words rounds compress hash_after digest_bytes md5 encode_with first_words schedule rounds256 compress256 hash_after256 digest_bytes256 sha256 challenges_in next_in first_fields
next_nonce_2_is_trace = inl ((((((((((tt, (refl {a = Begin}, refl {a = true})), (refl {a = (Preempt Server)}, refl {a = true})), refl {a = 1}), (refl {a = Server}, refl {a = 2})), refl {a = Headed 1 (codes "GET /b HTTP/1.1" ++ (13 ∷ (10 ∷ (codes "Host: d.example" ++ (13 ∷ (10 ∷ (codes "Authorization: Digest username=\"u\", realm=\"d\", nonce=\"b\", uri=\"/b\", response=\"97c7cec729708308dda70c1250384daa\", qop=auth, nc=00000001, cnonce=\"e3f82b9716e036ab9759c12103c1c1aa\"" ++ (13 ∷ (10 ∷ (codes "Connection: close" ++ (13 ∷ (10 ∷ (13 ∷ (10 ∷ []))))))))))))))}), (refl {a = 1}, refl {a = true})), (refl {a = (Note (record { space = 1; ordinal = 1 }))}, refl {a = true})), (refl {a = End}, refl {a = true})), refl {a = Ended (Answered 200)}), refl {a = true})

pub next_nonce_2_is_heard : IsHeard (λ name. ended (stream_in next_nonce_links name)) next_nonce_2_request.method 2 (reverse next_nonce_2)
unfolding httparse_on_literals reply_in reply_len fault_in
next_nonce_2_is_heard = (((((((((tt, tt), tt), tt), tt), tt), refl {a = Some (record { code = 200; stays = true; body = 2; fields = []; server_info = []; proxy_info = [] })}), tt), tt), tt)

-- The examples of RFC 2617, section 3.5, and RFC 7616, section 3.9.1.
use Rattle.std.specs.Prelude.{ℕ, List, ◌++◌, map, true, false, codes, Some, Result}
use Rattle.auth_text.specs.Login.{Login}
use Rattle.challenge_tokens.specs.Pieces.{field_read}
use Rattle.digest_handler.specs.declared.challenge_terms.Passed.{Passed}
use Rattle.digest_handler.specs.declared.challenge_terms.TermsRead.{TermsRead}
use Rattle.digest_handler.specs.ChallengeTerms.{terms_read}
use Rattle.spaces.specs.declared.terms.Algorithm.{Algorithm}
use Rattle.spaces.specs.declared.terms.Algorithm.TheVariants.{Md5}
use Rattle.spaces.specs.declared.terms.Qop.{Qop}
use Rattle.spaces.specs.declared.terms.Qop.TheVariants.{Auth}
use Rattle.spaces.specs.declared.terms.Terms.{Terms}

abbrev pub login_2617 : Login
login_2617 = record { user = codes "Mufasa"; password = codes "Circle Of Life" }

abbrev pub terms_2617 : Qop → Terms
terms_2617 qop = record {
  algorithm = Md5;
  said = false;
  realm = codes "testrealm@host.com";
  nonce = codes "dcd98b7102dd2f0e8b11d0f600bfb0c093";
  opaque = Some (codes "5ccc069c403ebaf9f0171e9517f40e41");
  qop = qop;
  userhash = false;
}

abbrev pub text_2617 : List ℕ
text_2617 = codes "Digest username=\"Mufasa\", realm=\"testrealm@host.com\", nonce=\"dcd98b7102dd2f0e8b11d0f600bfb0c093\", uri=\"/dir/index.html\", response=\"6629fae49393a05397450978507c4ef1\", opaque=\"5ccc069c403ebaf9f0171e9517f40e41\", qop=auth, nc=00000001, cnonce=\"0a4f113b\""

abbrev pub text_2617_without_qop : List ℕ
text_2617_without_qop = codes "Digest username=\"Mufasa\", realm=\"testrealm@host.com\", nonce=\"dcd98b7102dd2f0e8b11d0f600bfb0c093\", uri=\"/dir/index.html\", response=\"670fd8c2df070c60b045671b8b24ff02\", opaque=\"5ccc069c403ebaf9f0171e9517f40e41\""

abbrev pub login_7616 : Login
login_7616 = record { user = codes "Mufasa"; password = codes "Circle of Life" }

abbrev pub terms_7616 : Algorithm → Terms
terms_7616 algorithm = record {
  algorithm = algorithm;
  said = true;
  realm = codes "http-auth@example.org";
  nonce = codes "7ypf/xlj9XXwfDPEoM4URrv/xwf94BcCAzFZH4GiTo0v";
  opaque = Some (codes "FQhe/qaU925kfnzjCev0ciny7QMkPqMAFRtzCUYo5tdS");
  qop = Auth;
  userhash = false;
}

abbrev pub cnonce_7616 : List ℕ
cnonce_7616 = codes "f2/wE4q74E6zIJEtWaHKaf5wv/H5QzzpXusqGemxURZJ"

-- terms that ask for the hashed user name
abbrev pub with_userhash : Terms → Terms
with_userhash terms = record terms { userhash = true }

-- the credentials of the example with SHA-256, where the challenge has userhash too
abbrev pub text_with_userhash : List ℕ
text_with_userhash = codes "Digest username=\"a947aad205e80e429958a387394944c6b496301e79f89d35a4cc23b6ee12b5b6\", realm=\"http-auth@example.org\", nonce=\"7ypf/xlj9XXwfDPEoM4URrv/xwf94BcCAzFZH4GiTo0v\", uri=\"/dir/index.html\", algorithm=SHA-256, response=\"753927fa0e85d155564e2e272a28d1802ca10daf4496794697cf8db5856cb6c1\", opaque=\"FQhe/qaU925kfnzjCev0ciny7QMkPqMAFRtzCUYo5tdS\", qop=auth, nc=00000001, cnonce=\"f2/wE4q74E6zIJEtWaHKaf5wv/H5QzzpXusqGemxURZJ\", userhash=true"

-- the field with the challenge
abbrev pub field_2617 : List ℕ
field_2617 = codes "Digest realm=\"testrealm@host.com\", qop=\"auth,auth-int\", nonce=\"dcd98b7102dd2f0e8b11d0f600bfb0c093\", opaque=\"5ccc069c403ebaf9f0171e9517f40e41\""

-- the two fields, by the name of their algorithm
abbrev pub field_7616 : List ℕ → List ℕ
field_7616 name =
    codes "Digest realm=\"http-auth@example.org\", qop=\"auth, auth-int\", algorithm=" ++ name
    ++ codes ", nonce=\"7ypf/xlj9XXwfDPEoM4URrv/xwf94BcCAzFZH4GiTo0v\", opaque=\"FQhe/qaU925kfnzjCev0ciny7QMkPqMAFRtzCUYo5tdS\""

-- what the challenges of a field are read as
abbrev pub all_terms : List ℕ → List (Result TermsRead Passed)
all_terms field = map terms_read (field_read field).challenges

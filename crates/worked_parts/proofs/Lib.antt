mod Fetched
